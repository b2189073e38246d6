use Rattle.table.specs.Setting.{lists_of}
use Rattle.table.proofs.TotalLemmas.{AreTotalsFrom}
use Rattle.table.proofs.rules.Shaped.totals.Given as goal

abbrev pub invariant-loop-s : goal.invariant-loop-s
invariant-loop-s l = AreTotalsFrom (lists_of l.self.setting) l.s l.totals.items

abbrev pub decreases-loop-s : goal.decreases-loop-s
decreases-loop-s l = l.s
