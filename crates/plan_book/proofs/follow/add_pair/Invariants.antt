use Rattle.std.proofs.Common.{◌≡◌, ◌∷◌, [], ◌++◌}
use Rattle.plan_book.specs.Entries.{concat_below}
use Rattle.sim_game.specs.Sides.{child_of}
use Rattle.plan_book.proofs.follow.add_pair.Given as goal

abbrev pub invariant-loop-d : goal.invariant-loop-d
invariant-loop-d g l = l.children.items ≡ l.initial.children.items ++ concat_below l.d (λ d. child_of (g.G.Game.model l.g) l.fn.side l.s l.own l.reply d ∷ [])
