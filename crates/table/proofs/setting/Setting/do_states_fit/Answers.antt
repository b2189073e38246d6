use Rattle.std.proofs.Common.{arith, sym, ◌∙◌}
use Rattle.table.specs.Setting.{lists_of}
use Rattle.table.proofs.FitLemmas.{not_fitted, too_many}
use Rattle.table.proofs.setting.Setting.do_states_fit.Goals as goal

pub returns-then-not-state_fits : goal.returns-then-not-state_fits
returns-then-not-state_fits c = sym (not_fitted (lists_of c.args.self.now) c.loop-s.s (omega arith) (sym c.state_fits.ensures ∙ c.if-not-state_fits.true))

pub returns-then-cells-total : goal.returns-then-cells-total
returns-then-cells-total c = sym (too_many (lists_of c.args.self.now) c.loop-s.s c.loop-s.cells c.cells_of-cells.result (omega arith) c.loop-s.invariant c.cells_of-cells.ensures.is (omega arith))
