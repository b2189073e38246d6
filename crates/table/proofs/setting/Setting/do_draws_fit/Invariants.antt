use Rattle.table.specs.Setting.{lists_of}
use Rattle.table.proofs.FitLemmas.{HaveRisen}
use Rattle.table.proofs.setting.Setting.do_draws_fit.Given as goal

abbrev pub invariant-loop-place : goal.invariant-loop-place
invariant-loop-place l = HaveRisen (lists_of l.self) l.place l.last

abbrev pub decreases-loop-place : goal.decreases-loop-place
decreases-loop-place l = l.place
