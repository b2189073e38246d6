use Rattle.std.proofs.Common.{◌≡◌, ◌-◌, ◌≤◌}
use Rattle.table.specs.Below.{worst_upto}
use Rattle.table.specs.Lists.{draws_at}
use Rattle.table.specs.Setting.{lists_of}
use Rattle.table.specs.Totals.{total_in, turn_total}
use Rattle.table.proofs.rules.Shaped.cell_total.Given as goal

abbrev pub invariant-loop-d : goal.invariant-loop-d
invariant-loop-d l =
    (1 ≤ l.d) × (l.d ≤ draws_at (lists_of l.self.setting) l.place)
    × (l.worst ≡ worst_upto l.side (l.d - 1) (turn_total (lists_of l.self.setting) (total_in l.totals l.side) l.place))
