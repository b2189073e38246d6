use Rattle.std.proofs.Common.{ℕ, ℤ, length, ◌<◌, ◌≤◌, ◌≤ℤ◌, pos, unsigned_abs, slice_index_or}
use Rattle.matrix_game.proofs.cells.Matrix.range.Given as goal

abbrev pub invariant-loop-cell : goal.invariant-loop-cell
invariant-loop-cell l = record {
  above : (k : ℕ) → k < l.cell-index → l.least ≤ℤ slice_index_or l.self.cells k (pos 0);
  below : (k : ℕ) → k < l.cell-index → slice_index_or l.self.cells k (pos 0) ≤ℤ l.greatest;
  low_is : (z : ℤ) → ((k : ℕ) → k < length l.self.cells → z ≤ℤ slice_index_or l.self.cells k (pos 0)) → z ≤ℤ l.least;
  high_is : (z : ℤ) → ((k : ℕ) → k < length l.self.cells → slice_index_or l.self.cells k (pos 0) ≤ℤ z) → l.greatest ≤ℤ z;
  small_low : unsigned_abs l.least ≤ 4000000000;
  small_high : unsigned_abs l.greatest ≤ 4000000000;
}
