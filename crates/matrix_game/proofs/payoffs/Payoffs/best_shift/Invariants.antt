use Rattle.std.proofs.Common.{◌<◌, ◌≤◌, IfSome, slice_index}
use Rattle.matrix_game.proofs.payoffs.Payoffs.best_shift.Given as goal

abbrev pub invariant-loop-from : goal.invariant-loop-from
invariant-loop-from l = record {
  from : IfSome l.best (λ s. s.from < l.self.rows);
  some : IfSome l.best (λ s. 1 ≤ slice_index l.weights s.from);
  to : IfSome l.best (λ s. s.to < l.self.rows);
}
