use Rattle.goofspiel.proofs.TreeLemmas.{known_tree}
use Rattle.goofspiel.proofs.margin_by_prizes.Goals as goal

pub returns : goal.returns
returns c = known_tree
