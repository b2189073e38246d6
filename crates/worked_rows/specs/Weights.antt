-- Games of so few moves that each weight is fine enough for their stages.
use Rattle.std.specs.Prelude.{ℕ, ◌≤◌}
use Rattle.sim_game.specs.Model.{GameModel}
use Rattle.sim_game.specs.Resolution.{IsFineWeight}

-- no state has more than 32 moves a side, and from 8192 on each total is fine enough
pub record HasFewMoves {S : Type 0} (m : GameModel S) : Type 0 where
  pub few : m.width ≤ 32
  pub fine : (total : ℕ) → 8192 ≤ total → IsFineWeight m total
