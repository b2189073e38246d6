use Rattle.table.proofs.NestedLemmas.{forms_have_longest_ways}
use Rattle.table.proofs.nested.states_have_longest_ways.Goals as goal

pub returns : goal.returns
returns c = forms_have_longest_ways
