use Rattle.std.proofs.Common.{◌≡◌, ◌-◌, ◌≤◌}
use Rattle.table.specs.Below.{worst_upto}
use Rattle.table.specs.Lists.{cells_of, place_at}
use Rattle.table.specs.Setting.{lists_of}
use Rattle.table.specs.Totals.{cell_total, total_in}
use Rattle.table.proofs.rules.Shaped.next_total.Given as goal

abbrev pub invariant-loop-k : goal.invariant-loop-k
invariant-loop-k l =
    (1 ≤ l.k) × (l.k ≤ cells_of (lists_of l.self.setting) l.s)
    × (l.worst ≡ worst_upto l.side (l.k - 1) (λ k. cell_total (lists_of l.self.setting) l.side (total_in l.totals l.side) (place_at (lists_of l.self.setting) l.s k)))
