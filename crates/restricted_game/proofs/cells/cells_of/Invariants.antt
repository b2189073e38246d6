use Rattle.std.proofs.Common.{◌≡◌, ◌/◌, ◌%◌, All, map}
use Rattle.std.specs.List.{range_with_len}
use Rattle.matrix_game.specs.Grid.{IsSmallCell}
use Rattle.restricted_game.specs.Tables.{pair_cell}
use Rattle.restricted_game.proofs.cells.cells_of.Given as goal

abbrev pub invariant-loop-pair : goal.invariant-loop-pair
invariant-loop-pair g l = record {
  cells_so_far : l.items.items ≡ map (λ pair. pair_cell (g.G.Game.model l.g) l.fn.side l.s l.table (pair / l.table.width) (pair % l.table.width)) (range_with_len 0 l.pair);
  small : All IsSmallCell l.items.items;
}
