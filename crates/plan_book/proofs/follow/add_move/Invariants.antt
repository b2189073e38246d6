use Rattle.std.proofs.Common.{◌≡◌, ◌++◌}
use Rattle.plan_book.specs.Entries.{concat_below}
use Rattle.plan_book.specs.Children.{children_of_pair}
use Rattle.plan_book.proofs.follow.add_move.Given as goal

abbrev pub invariant-loop-reply : goal.invariant-loop-reply
invariant-loop-reply g l = l.children.items ≡ l.initial.children.items ++ concat_below l.reply (children_of_pair (g.G.Game.model l.g) l.side l.s l.own)
