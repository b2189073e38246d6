use Rattle.std.proofs.Common.{◌≡◌, ℕ, ◌<◌, None}
use Rattle.table.specs.Setting.{lists_of}
use Rattle.table.specs.Faults.{fault_at}
use Rattle.table.proofs.rules.Fitting.check.Given as goal

abbrev pub invariant-loop-s : goal.invariant-loop-s
invariant-loop-s l = (s : ℕ) → s < l.s → fault_at l.rule (lists_of l.self.setting) s ≡ None
