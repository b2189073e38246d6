use Rattle.std.proofs.Common.{◌≡◌, ◌+◌, length, sum}
use Rattle.matrix_game.proofs.rounding.round.Given as goal

abbrev pub invariant-loop-place : goal.invariant-loop-place
invariant-loop-place l = record {
  each : length l.weights.items ≡ l.place;
  all : sum l.weights.items + l.left ≡ l.total;
}
