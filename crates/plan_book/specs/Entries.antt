-- Entries: a bound of a state, with the weights that prove it over numbers of its turns.
use Rattle.std.specs.Prelude.{◌≡◌, ℕ, zero, suc, ◌<◌, ◌≤◌, ℤ, List, [], ◌++◌, slice_index, length}
use Rattle.sim_game.specs.declared.Side.{Side}
use Rattle.sim_game.specs.declared.Side.TheVariants.{One, Two}
use Rattle.sim_game.specs.Model.{GameModel, Reachable}
use Rattle.plan_book.specs.declared.Entry.{Entry}
use Rattle.sim_game.specs.Sides.{other_side, IsNoTighter, state_bound, draws_of, after_reward}
use Rattle.plan_book.specs.Plans.{one_move}
use Rattle.plan_book.specs.Steps.{IsStep}
use Rattle.plan_book.specs.Backed.{IsBacked}

-- f 0 to f (n - 1), one after another
abbrev pub concat_below : {X : Type 0} → ℕ → (ℕ → List X) → List X
concat_below zero f = []
concat_below (suc n) f = concat_below n f ++ f n

-- the entry is a step at a reachable state, in the range of its values, over numbers of turns that are backed where the turns lead, and of which a further fact is known there
pub record IsEntry {S : Type 0} (m : GameModel S) (total : ℕ) (Known : Side → S → ℤ → Type 0) (e : Entry) : Type 0 where
  pub state : S
  pub reachable : Reachable m state
  pub is_key : m.key state ≡ e.key
  pub low : IsNoTighter One (state_bound m One state) e.bound
  pub high : IsNoTighter Two (state_bound m Two state) e.bound
  pub numbers : ℕ → ℕ → ℕ → ℤ
  pub step : IsStep m e.side state total e.weights numbers e.bound
  pub backed : (own reply draw : ℕ) → own < m.moves e.side state → reply < m.moves (other_side e.side) state → draw < draws_of m e.side state own reply
      → 1 ≤ slice_index e.weights own → after_reward m e.side state own reply draw (IsBacked m e.side) (numbers own reply draw)
  pub known : (own reply draw : ℕ) → own < m.moves e.side state → reply < m.moves (other_side e.side) state → draw < draws_of m e.side state own reply
      → 1 ≤ slice_index e.weights own → after_reward m e.side state own reply draw (Known e.side) (numbers own reply draw)

abbrev pub IsLawfulEntry : {S : Type 0} → GameModel S → ℕ → Entry → Type 0
IsLawfulEntry m total e = IsEntry m total (λ _ _ _. Unit {0}) e

-- a lawful entry that puts the whole total on one move
pub record IsPureEntry {S : Type 0} (m : GameModel S) (total : ℕ) (e : Entry) : Type 0 where
  pub lawful : IsLawfulEntry m total e
  pub place : ℕ
  pub pure : e.weights ≡ one_move total (length e.weights) place
