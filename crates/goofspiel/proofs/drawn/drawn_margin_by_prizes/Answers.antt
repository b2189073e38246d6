use Rattle.goofspiel.proofs.TreeLemmas.{drawn_tree}
use Rattle.goofspiel.proofs.drawn.drawn_margin_by_prizes.Goals as goal

pub returns : goal.returns
returns c = drawn_tree
