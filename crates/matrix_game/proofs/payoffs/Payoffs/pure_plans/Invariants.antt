use Rattle.std.proofs.Common.{◌<◌}
use Rattle.matrix_game.proofs.payoffs.Payoffs.pure_plans.Given as goal

abbrev pub invariant-loop-next : goal.invariant-loop-next
invariant-loop-next l = l.row < l.self.rows
