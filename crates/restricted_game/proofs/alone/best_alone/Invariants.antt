use Rattle.std.specs.List.{Contains}
use Rattle.restricted_game.proofs.alone.best_alone.Given as goal

abbrev pub invariant-loop-i : goal.invariant-loop-i
invariant-loop-i l = Contains l.held l.place
