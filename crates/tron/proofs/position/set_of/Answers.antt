use Rattle.std.proofs.Common.{get_or}
use Rattle.std.proofs.lemmas.List.{take_more}
use Rattle.tron.specs.laws.Cells.{set_more}
use Rattle.tron.proofs.position.set_of.Goals as goal

pub loop-cell-preserved : goal.loop-cell-preserved
loop-cell-preserved c =
    rw (c.with_cell-taken.ensures, take_more c.args.cells.now c.loop-cell.cell-index 0 c.loop-cell-test.true)
    (set_more _ c.loop-cell.taken (get_or c.args.cells.now c.loop-cell.cell-index 0) c.loop-cell.invariant)
