use Rattle.std.proofs.Common.{◌≡◌, ◌-◌, ◌≤◌}
use Rattle.table.specs.Below.{worst_upto}
use Rattle.table.specs.Totals.{total_in}
use Rattle.table.proofs.state_totals.worst_total.Given as goal

abbrev pub invariant-loop-s : goal.invariant-loop-s
invariant-loop-s l = (1 ≤ l.s) × (l.s ≤ l.states) × (l.worst ≡ worst_upto l.side (l.s - 1) (total_in l.totals l.side))
