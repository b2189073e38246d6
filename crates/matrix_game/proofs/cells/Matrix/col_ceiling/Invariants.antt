use Rattle.std.proofs.Common.{◌≡◌}
use Rattle.matrix_game.specs.Grid.{row_sum, first_greatest}
use Rattle.matrix_game.proofs.cells.Matrix.col_ceiling.Given as goal

abbrev pub invariant-loop-row : goal.invariant-loop-row
invariant-loop-row l = l.best ≡ row_sum l.self l.v (first_greatest l.row (row_sum l.self l.v))
