-- The positions and the asks whose numbers are all in range.
use Rattle.std.specs.Prelude.{◌≤◌, pos}
use Rattle.sums.specs.declared.TheConstants.{LEAST_WEIGHT, MOST_WEIGHT}
use Rattle.sim_game.specs.declared.TheConstants.{MOST_ROWS}
use Rattle.fields.specs.declared.ask.Ask.{Ask}
pub use Rattle.fields.specs.Numbers.{Within, Between, IsByteList}
pub use Rattle.fields.specs.Positions.{IsPositionInRange}

pub record IsAskInRange (ask : Ask) : Type 0 where
  pub gap : Between (pos 0) (pos 8000000000) ask.gap
  pub weight : Within LEAST_WEIGHT MOST_WEIGHT ask.weight
  pub turns : ask.turns ≤ 1099511627776
  pub visits : ask.visits ≤ 1099511627776
  pub rows : Within 1 MOST_ROWS ask.rows
  pub workers : Within 1 16 ask.workers
