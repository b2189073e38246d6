use Rattle.std.proofs.Common.{ℕ, ◌<◌, pos, slice_index_or}
use Rattle.matrix_game.specs.Grid.{IsSmallCell}
use Rattle.matrix_game.proofs.cells.Matrix.new.Given as goal

abbrev pub invariant-loop-place : goal.invariant-loop-place
invariant-loop-place l = (k : ℕ) → k < l.place → IsSmallCell (slice_index_or l.cell-items k (pos 0))
