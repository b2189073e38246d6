use Rattle.std.proofs.Common.{◌≡◌, ℕ, ◌<◌, None}
use Rattle.table.specs.Setting.{lists_of}
use Rattle.table.specs.Faults.{total_fault_at}
use Rattle.table.proofs.rules.Shaped.check_totals.Given as goal

abbrev pub invariant-loop-s : goal.invariant-loop-s
invariant-loop-s l = (s : ℕ) → s < l.s → total_fault_at (lists_of l.self.setting) s ≡ None
