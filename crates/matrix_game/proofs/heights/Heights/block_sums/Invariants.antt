use Rattle.std.proofs.Common.{◌≡◌, ℕ, ◌+◌, ◌*◌, ◌<◌, ◌≤◌, length, slice_index}
use Rattle.sums.specs.Sums.{count_below}
use Rattle.matrix_game.proofs.heights.Heights.block_sums.Given as goal

abbrev pub invariant-loop-row : goal.invariant-loop-row
invariant-loop-row l = record {
  eight : length l.sums ≡ 8;
  added : (k : ℕ) → k < 8 → slice_index l.sums k ≡ count_below l.row (λ a. slice_index l.p a * slice_index l.self.cells.items (a * (8 * l.self.blocks) + (8 * l.block + k)));
  small : (k : ℕ) → k < 8 → slice_index l.sums k ≤ l.row * 4503599627370496;
}
