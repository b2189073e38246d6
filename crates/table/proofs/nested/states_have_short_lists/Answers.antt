use Rattle.table.proofs.RangeLemmas.{forms_in_range}
use Rattle.table.proofs.nested.states_have_short_lists.Goals as goal

pub returns : goal.returns
returns c = forms_in_range
