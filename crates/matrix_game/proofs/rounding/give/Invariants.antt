use Rattle.std.proofs.Common.{◌≡◌, ◌+◌, sum}
use Rattle.matrix_game.proofs.rounding.give.Given as goal

abbrev pub invariant-loop : goal.invariant-loop
invariant-loop l = sum l.weights + l.left ≡ sum l.fn.weights + l.fn.left
