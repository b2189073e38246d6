-- The search that the commands are given.
use Rattle.std.specs.Prelude.{Bool, Result, IfOk}
use Rattle.sim_game.specs.declared.NoMemory.{NoMemory}
use Rattle.fields.specs.declared.ask.Ask.{Ask}
use Rattle.fields.specs.Ranges.{IsAskInRange}
use Rattle.position.specs.declared.games.AnyGame.{AnyGame}
use Rattle.position.specs.Games.{OfSame, IsFineFor}
use Rattle.lazy_workers.specs.declared.summary.Found.{Found}
use Rattle.lazy_workers.specs.Findings.{IsFoundGame}

-- a function that may be called with each game and with all that can be asked, weights fine enough for the game, and
-- gives what is found, by a search that may be stopped or not
pub record IsFinder (may_stop : Bool) (pre : AnyGame → Ask → Type 0) (post : AnyGame → Ask → Result Found NoMemory → Type 0) : Type 0 where
  pub may_find : (game : AnyGame) (ask : Ask) → IsAskInRange ask → IsFineFor game ask.weight → pre game ask
  pub finds : (game : AnyGame) (ask : Ask) (result : Result Found NoMemory) → post game ask result
      → OfSame game (λ S m. IfOk result (IsFoundGame m ask may_stop))
