use Rattle.std.proofs.Common.{◌≡◌, ◌<◌, IfSome}
use Rattle.matrix_game.proofs.payoffs.Payoffs.best_target.Given as goal

abbrev pub invariant-loop-to : goal.invariant-loop-to
invariant-loop-to l = record {
  from : IfSome l.best (λ s. s.from ≡ l.from);
  to : IfSome l.best (λ s. s.to < l.self.rows);
}
