use Rattle.std.proofs.Common.{take}
use Rattle.tron.specs.Cells.{IsSetOf}
use Rattle.tron.proofs.position.set_of.Given as goal

abbrev pub invariant-loop-cell : goal.invariant-loop-cell
invariant-loop-cell l = IsSetOf (take l.cell-index l.cells) l.taken
