use Rattle.table.proofs.RangeLemmas.{forms_wider}
use Rattle.table.proofs.nested.states_widen.Goals as goal

pub returns : goal.returns
returns c = forms_wider
