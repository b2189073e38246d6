use Rattle.std.proofs.Common.{◌≡◌}
use Rattle.table.specs.Setting.{lists_of}
use Rattle.table.specs.Below.{highest_below}
use Rattle.table.specs.Lists.{table_rank, table_state}
use Rattle.table.proofs.rules.Fitting.cell_rank.Given as goal

abbrev pub invariant-loop-d : goal.invariant-loop-d
invariant-loop-d l = l.most ≡ highest_below l.d (λ d. table_rank (lists_of l.self.setting) (table_state (lists_of l.self.setting) l.place d))
