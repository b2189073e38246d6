-- Undecided states in a list, each once.
use Rattle.std.specs.Prelude.{ℕ, ◌+◌, ◌≤◌, Bool, List, length, All}
use Rattle.sim_game.specs.Model.{GameModel, Reachable}
use Rattle.matrix_game.specs.Budget.{Budget}
use Rattle.induction.specs.declared.gave_up.GaveUp.{GaveUp}
use Rattle.induction.specs.Spent.{HasSpent, IsReason}
use Rattle.induction.specs.Undecided.{HasUndecided, KnowsUndecided}

-- the state is reachable and no end
pub record GoesOn {S : Type 0} (m : GameModel S) (s : S) : Type 0 where
  pub reachable : Reachable m s
  pub no_end : 1 ≤ m.rank s

-- the states are as many undecided ones as are known, and no more than so many
pub record AreListed {S : Type 0} (m : GameModel S) (number : S → ℕ) (rows : ℕ) (known : ℕ → Bool) (states : List S) : Type 0 where
  pub known_are : KnowsUndecided m number known (length states)
  pub few : length states ≤ rows
  pub each : All (GoesOn m) states

-- why no more than so many states were not listed, whatever turns are left
abbrev pub IsUnlisted : {S : Type 0} → GameModel S → ℕ → GaveUp → Type 0
IsUnlisted m rows e = (b : Budget) → IsReason (HasUndecided m (rows + 1)) b e

-- some undecided states have values, no more than so many, each for at most a turn
pub record HasValues {S : Type 0} (m : GameModel S) (rows : ℕ) (old new : Budget) : Type 0 where
  pub count : ℕ
  pub undecided : HasUndecided m count
  pub few : count ≤ rows
  pub spent : HasSpent 0 count old new
