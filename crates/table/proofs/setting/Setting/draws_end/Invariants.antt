use Rattle.std.proofs.Common.{◌≡◌, drop}
use Rattle.table.specs.Setting.{lists_of}
use Rattle.table.specs.Lists.{draw_total, draws_end}
use Rattle.table.proofs.setting.Setting.draws_end.Given as goal

abbrev pub invariant-loop-number : goal.invariant-loop-number
invariant-loop-number l = draws_end (drop l.number-index l.number-items) (draw_total (lists_of l.self)) ≡ draws_end (drop l.place l.self.cells.now) (draw_total (lists_of l.self))
