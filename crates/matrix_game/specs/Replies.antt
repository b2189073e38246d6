-- Replies of the columns to weights of the rows.
use Rattle.std.specs.Prelude.{◌≡◌, ℕ, ◌*◌, ◌<◌, ◌≤◌, List, unsigned_abs}
use Rattle.sums.specs.declared.TheConstants.{MOST_MOVES, MOST_WEIGHT, MOST_BOUND}
use Rattle.matrix_game.specs.declared.cells.Reply.{Reply}
use Rattle.matrix_game.specs.Grid.{Grid, best_reply, row_floor}

-- the first column in which the weights p of the rows pay least, and what they pay there
pub record IsReplyTo (m : Grid) (p : List ℕ) (reply : Reply) : Type 0 where
  pub col : reply.col ≡ best_reply m p
  pub paid : reply.paid ≡ row_floor m p
  pub col_in : reply.col < m.cols
  pub bounded : unsigned_abs reply.paid ≤ MOST_MOVES * (MOST_WEIGHT * MOST_BOUND)
