use Rattle.std.proofs.Common.{◌≡◌, ℕ, ◌+◌, ◌*◌, ◌<◌, ◌≤◌, length, slice_index}
use Rattle.sums.specs.Sums.{count_below}
use Rattle.matrix_game.proofs.heights.Heights.sum_rows.Given as goal

abbrev pub invariant-loop-block : goal.invariant-loop-block
invariant-loop-block l = record {
  as_many : 8 * l.self.blocks ≤ length l.sums;
  each : (k : ℕ) → k < 8 * l.block → slice_index l.sums k ≡ count_below l.self.rows (λ a. slice_index l.p a * slice_index l.self.cells.items (a * (8 * l.self.blocks) + k));
}
