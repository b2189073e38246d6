-- Turns that are spent between two moments, and why a search gave up.
use Rattle.std.specs.Prelude.{◌≡◌, ℕ, ◌+◌, ◌*◌, ◌≤◌}
use Rattle.sim_game.specs.Model.{GameModel}
use Rattle.matrix_game.specs.Budget.{Budget, left_of, IsSameBudget}
use Rattle.induction.specs.declared.gave_up.GaveUp.{GaveUp}
use Rattle.induction.specs.declared.gave_up.GaveUp.TheVariants.{TooManyStates, Spent, NoMemory}
use Rattle.induction.specs.Undecided.{HasUndecided}

-- no turn comes back, and no more are spent than what was counted grew by; those that are left were given up at most where
-- they may be
pub record HasSpent (before after : ℕ) (old new : Budget) : Type 0 where
  pub same : IsSameBudget old new
  pub more : old.spent ≤ new.spent
  pub few : new.spent + before ≤ old.spent + after

-- why it gave up; what holds where there are too many states is said beside
abbrev pub IsReason : Type 0 → Budget → GaveUp → Type 0
IsReason Many b TooManyStates = Many
IsReason Many b Spent = left_of b ≡ 0
IsReason Many b NoMemory = Unit {0}

-- it gave up for a reason, and no more turns were spent than there are undecided states, those counted before left out
pub record IsStopped {S : Type 0} (m : GameModel S) (Many : Type 0) (before : ℕ) (old new : Budget) (e : GaveUp) : Type 0 where
  pub why : IsReason Many new e
  pub count : ℕ
  pub undecided : HasUndecided m count
  pub spent : HasSpent before count old new

-- no turn comes back, and no more are spent than so many for each of some undecided states
pub record HasSpentEach {S : Type 0} (m : GameModel S) (times : ℕ) (old new : Budget) : Type 0 where
  pub same : IsSameBudget old new
  pub more : old.spent ≤ new.spent
  pub count : ℕ
  pub undecided : HasUndecided m count
  pub few : new.spent ≤ old.spent + times * count
