use Rattle.std.proofs.Common.{◌<◌, length}
use Rattle.matrix_game.proofs.floats.ends_of.Given as goal

abbrev pub invariant-loop-place : goal.invariant-loop-place
invariant-loop-place l = l.found < length l.numbers
