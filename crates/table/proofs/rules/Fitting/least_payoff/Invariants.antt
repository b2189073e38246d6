use Rattle.std.proofs.Common.{◌≡◌}
use Rattle.table.specs.Setting.{lists_of}
use Rattle.table.specs.Lists.{least_of}
use Rattle.table.proofs.rules.Fitting.least_payoff.Given as goal

abbrev pub invariant-loop-s : goal.invariant-loop-s
invariant-loop-s l = l.low ≡ least_of (lists_of l.self.setting) l.s
