use Rattle.table.specs.Setting.{lists_of}
use Rattle.table.proofs.DrawLemmas.{IsCounted}
use Rattle.table.proofs.Table.draw_count.Given as goal

abbrev pub invariant-loop-left : goal.invariant-loop-left
invariant-loop-left l = IsCounted (lists_of l.self.setting) l.first l.count l.left

abbrev pub decreases-loop-left : goal.decreases-loop-left
decreases-loop-left l = l.left
