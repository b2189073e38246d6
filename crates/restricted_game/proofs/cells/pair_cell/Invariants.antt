use Rattle.std.proofs.Common.{◌≡◌, ◌*◌, ◌≤◌, pos, ◌*ℤ◌, unsigned_abs}
use Rattle.sums.specs.Sums.{sum_below}
use Rattle.bounds_board.specs.Views.{bound_in}
use Rattle.restricted_game.specs.Tables.{enclosure_in}
use Rattle.restricted_game.proofs.cells.pair_cell.Given as goal

abbrev pub invariant-loop-draw : goal.invariant-loop-draw
invariant-loop-draw g l = record {
  sum_so_far : l.sum ≡ sum_below l.draw (λ draw. pos ((g.G.Game.model l.g).chance l.s l.one l.two draw) *ℤ bound_in l.fn.side (enclosure_in l.table l.one l.two draw));
  small : unsigned_abs l.sum ≤ l.draw * 4194304000000000;
}
