use Rattle.std.proofs.Common.{◌≡◌, ◌+◌, ◌*◌, ◌/◌, ◌%◌, All, pos, length, map, slice_index, slice_index_or}
use Rattle.std.specs.List.{range_with_len}
use Rattle.matrix_game.specs.Grid.{IsSmallCell}
use Rattle.restricted_game.proofs.cells.held_cells.Given as goal

abbrev pub invariant-loop-place : goal.invariant-loop-place
invariant-loop-place l = record {
  held_so_far : l.held.items ≡ map
      (λ place. slice_index_or l.cells.items.items (slice_index l.rows (place / length l.cols) * l.cells.width + slice_index l.cols (place % length l.cols)) (pos 0))
      (range_with_len 0 l.place);
  small : All IsSmallCell l.held.items;
}
