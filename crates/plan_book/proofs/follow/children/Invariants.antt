use Rattle.std.proofs.Common.{◌≡◌}
use Rattle.plan_book.specs.Entries.{concat_below}
use Rattle.plan_book.specs.Children.{children_of_weighted}
use Rattle.plan_book.proofs.follow.children.Given as goal

abbrev pub invariant-loop-own : goal.invariant-loop-own
invariant-loop-own g l = l.children.items ≡ concat_below l.own (children_of_weighted (g.G.Game.model l.g) l.side l.weights l.s)
