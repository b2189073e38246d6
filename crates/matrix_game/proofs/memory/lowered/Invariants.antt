use Rattle.std.proofs.Common.{◌≡◌, ℕ, ◌<◌, length, pos, slice_index, slice_index_or, ◌+ℤ◌}
use Rattle.matrix_game.proofs.memory.lowered.Given as goal

abbrev pub invariant-loop-cell : goal.invariant-loop-cell
invariant-loop-cell l = record {
  so_far : (k : ℕ) → k < l.cell-index → slice_index_or l.cells k (pos 0) ≡ pos (slice_index l.others.items k) +ℤ l.least;
  as_many : length l.others.items ≡ l.cell-index;
}
