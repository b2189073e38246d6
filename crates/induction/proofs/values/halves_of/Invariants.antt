use Rattle.std.proofs.Common.{All}
use Rattle.induction.specs.Listed.{GoesOn}
use Rattle.induction.proofs.values.halves_of.Given as goal

abbrev pub invariant-loop : goal.invariant-loop
invariant-loop g l = All (λ half. All (GoesOn (g.G.Game.model l.g)) half.items) l.halves.items

abbrev pub invariant-loop-s : goal.invariant-loop-s
invariant-loop-s g l = All (λ half. All (GoesOn (g.G.Game.model l.g)) half.items) l.halves.items
