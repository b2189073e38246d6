use Rattle.std.proofs.Common.{◌≡◌, ℕ, ◌<◌, None}
use Rattle.table.specs.Setting.{lists_of}
use Rattle.table.specs.Faults.{fault_in}
use Rattle.table.proofs.rules.Fitting.cell_fault.Given as goal

abbrev pub invariant-loop-k : goal.invariant-loop-k
invariant-loop-k l = (k : ℕ) → k < l.k → fault_in l.rule (lists_of l.self.setting) l.s k ≡ None
