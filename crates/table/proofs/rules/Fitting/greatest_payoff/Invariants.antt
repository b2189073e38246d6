use Rattle.std.proofs.Common.{◌≡◌}
use Rattle.table.specs.Setting.{lists_of}
use Rattle.table.specs.Lists.{greatest_of}
use Rattle.table.proofs.rules.Fitting.greatest_payoff.Given as goal

abbrev pub invariant-loop-s : goal.invariant-loop-s
invariant-loop-s l = l.high ≡ greatest_of (lists_of l.self.setting) l.s
