use Rattle.table.proofs.NestedLemmas.{forms_fit}
use Rattle.table.proofs.nested.states_fit.Goals as goal

pub returns : goal.returns
returns c = forms_fit
