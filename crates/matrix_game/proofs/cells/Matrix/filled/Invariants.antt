use Rattle.std.proofs.Common.{◌≡◌, ℕ, ◌+◌, ◌*◌, ◌<◌, length, slice_index, pos, ◌+ℤ◌}
use Rattle.matrix_game.specs.Grid.{cell_at}
use Rattle.matrix_game.proofs.cells.Matrix.filled.Given as goal

abbrev pub invariant-loop-place : goal.invariant-loop-place
invariant-loop-place l = record {
  as_many : length l.heights.items ≡ l.place;
  cells : (a b : ℕ) → a * l.width + b < l.place → b < l.self.cols → cell_at l.self a b ≡ pos (slice_index l.heights.items (a * l.width + b)) +ℤ l.least;
}
