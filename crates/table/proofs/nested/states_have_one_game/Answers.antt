use Rattle.table.proofs.NestedLemmas.{forms_tell_game}
use Rattle.table.proofs.nested.states_have_one_game.Goals as goal

pub returns : goal.returns
returns c = forms_tell_game
