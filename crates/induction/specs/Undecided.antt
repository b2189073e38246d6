-- States at which something is left to decide, and how many of them there are at least.
use Rattle.std.specs.Prelude.{◌≡◌, ◌≢◌, ℕ, ◌<◌, ◌≤◌, ◌<ℤ◌, Bool, true}
use Rattle.sim_game.specs.Model.{GameModel, Reachable}

-- the state is no end, and what One can still get from it on is not certain
pub record IsUndecided {S : Type 0} (m : GameModel S) (s : S) : Type 0 where
  pub goes_on : 1 ≤ m.rank s
  pub uncertain : m.least s <ℤ m.most s

-- so many undecided states differ
pub record HasUndecided {S : Type 0} (m : GameModel S) (count : ℕ) : Type 0 where
  pub states : ℕ → S
  pub reachable : (i : ℕ) → i < count → Reachable m (states i)
  pub each : (i : ℕ) → i < count → IsUndecided m (states i)
  pub apart : (i j : ℕ) → i < j → j < count → states i ≢ states j

-- so many undecided states differ, and each is known by its number
pub record KnowsUndecided {S : Type 0} (m : GameModel S) (number : S → ℕ) (known : ℕ → Bool) (count : ℕ) : Type 0 where
  pub undecided : HasUndecided m count
  pub each : (i : ℕ) → i < count → known (number (undecided.states i)) ≡ true
