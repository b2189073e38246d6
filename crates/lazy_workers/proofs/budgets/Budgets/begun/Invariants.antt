use Rattle.std.proofs.Common.{◌≡◌, ◌≤◌, length, All, Contains}
use Rattle.lazy_workers.specs.Keeping.{HasLimit}
use Rattle.lazy_workers.proofs.budgets.Budgets.begun.Given as goal

abbrev pub invariant-loop-worker : goal.invariant-loop-worker
invariant-loop-worker l =
    (length l.turns.items ≡ l._worker) × All (HasLimit l.ask l.fn.first.may_stop) l.turns.items × All (λ t. t.spent ≤ l.fn.first.spent) l.turns.items × Contains l.turns.items l.fn.first
