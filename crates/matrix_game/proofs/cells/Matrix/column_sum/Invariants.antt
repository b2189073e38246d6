use Rattle.std.proofs.Common.{◌≡◌, ◌*◌, ◌≤◌, slice_index, unsigned_abs, pos, ◌*ℤ◌}
use Rattle.sums.specs.declared.TheConstants.{MOST_MOVES}
use Rattle.sums.specs.Sums.{sum_below}
use Rattle.matrix_game.specs.Grid.{cell_at}
use Rattle.matrix_game.proofs.cells.Matrix.column_sum.Given as goal

abbrev pub invariant-loop-row : goal.invariant-loop-row
invariant-loop-row l = record {
  sum_so_far : l.sum ≡ sum_below l.row (λ a. pos (slice_index l.p a) *ℤ cell_at l.self a l.col);
  small : unsigned_abs l.sum ≤ l.row * 4194304000000000;
  few : l.self.rows ≤ MOST_MOVES;
}
