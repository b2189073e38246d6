use Rattle.std.proofs.Common.{◌≡◌, sum}
use Rattle.matrix_game.proofs.payoffs.Payoffs.improve.Given as goal

abbrev pub invariant-loop : goal.invariant-loop
invariant-loop l = sum l.weights ≡ sum l.initial.weights
