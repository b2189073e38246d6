use Rattle.std.proofs.Common.{◌≡◌, ◌*◌, ◌≤◌, slice_index, unsigned_abs, pos, ◌*ℤ◌}
use Rattle.sums.specs.declared.TheConstants.{MOST_MOVES}
use Rattle.sums.specs.Sums.{sum_below}
use Rattle.matrix_game.specs.Grid.{cell_at}
use Rattle.matrix_game.proofs.cells.Matrix.row_sum.Given as goal

abbrev pub invariant-loop-col : goal.invariant-loop-col
invariant-loop-col l = record {
  sum_so_far : l.sum ≡ sum_below l.col (λ a. pos (slice_index l.v a) *ℤ cell_at l.self l.row a);
  small : unsigned_abs l.sum ≤ l.col * 4194304000000000;
  few : l.self.cols ≤ MOST_MOVES;
}
