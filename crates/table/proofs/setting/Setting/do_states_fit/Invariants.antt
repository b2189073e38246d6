use Rattle.table.specs.Setting.{lists_of}
use Rattle.table.proofs.FitLemmas.{HaveFitted}
use Rattle.table.proofs.setting.Setting.do_states_fit.Given as goal

abbrev pub invariant-loop-s : goal.invariant-loop-s
invariant-loop-s l = HaveFitted (lists_of l.self) l.s l.cells
