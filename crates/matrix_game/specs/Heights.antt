-- How far cells are above the least one.
use Rattle.std.specs.Prelude.{◌≡◌, ℕ, ◌+◌, ◌*◌, ◌<◌, ◌≤◌, List, length, slice_index, ℤ, pos, ◌+ℤ◌, unsigned_abs}
use Rattle.sums.specs.declared.TheConstants.{MOST_MOVES, MOST_BOUND}
use Rattle.matrix_game.specs.declared.heights.Heights.{Heights}
use Rattle.matrix_game.specs.Grid.{Grid, cell_at}

-- each cell is the least one and a height; the heights of a row are as many as the width, which may be more than the columns
pub record AreHeights (m : Grid) (least : ℤ) (width : ℕ) (heights : List ℕ) : Type 0 where
  pub all_cols : m.cols ≤ width
  pub narrow : width ≤ MOST_MOVES
  pub all_cells : length heights ≡ m.rows * width
  pub cells : (a b : ℕ) → a < m.rows → b < m.cols → cell_at m a b ≡ pos (slice_index heights (a * width + b)) +ℤ least

-- the heights of a matrix, in as many rows and in blocks of 8, above a least cell that a matrix may have
pub record AreHeightsOf (m : Grid) (heights : Heights) : Type 0 where
  pub cells : AreHeights m heights.least (8 * heights.blocks) heights.cells.items
  pub rows : heights.rows ≡ m.rows
  pub small : unsigned_abs heights.least ≤ MOST_BOUND
