use Rattle.std.proofs.Common.{◌≡◌, ◌*◌, ◌<◌, ◌≤◌, unsigned_abs}
use Rattle.sums.specs.declared.TheConstants.{MOST_MOVES, MOST_WEIGHT, MOST_BOUND}
use Rattle.matrix_game.specs.Grid.{column_sum, first_least}
use Rattle.matrix_game.proofs.cells.Matrix.best_reply.Given as goal

abbrev pub invariant-loop-col : goal.invariant-loop-col
invariant-loop-col l = record {
  least : l.reply.col ≡ first_least l.col (column_sum l.self l.p);
  paid : l.reply.paid ≡ column_sum l.self l.p l.reply.col;
  col_in : l.reply.col < l.self.cols;
  bounded : unsigned_abs l.reply.paid ≤ MOST_MOVES * (MOST_WEIGHT * MOST_BOUND);
}
