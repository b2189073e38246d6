-- How weights and numbers of the turns from a state prove a bound there.
use Rattle.std.specs.Prelude.{◌≡◌, ℕ, ◌<◌, ◌≤◌, ℤ, pos, ◌*ℤ◌, List, length, sum, slice_index}
use Rattle.sim_game.specs.declared.Side.{Side}
use Rattle.sim_game.specs.Model.{GameModel, whole_chance}
use Rattle.sums.specs.Sums.{sum_below}
use Rattle.sim_game.specs.Sides.{other_side, IsNoTighter, quotient, draws_of, chance_of}

-- divided by the whole of the chances, rounded so that it says no more for the side
abbrev pub rounded : Side → ℤ → ℤ
rounded side x = quotient side whole_chance x

-- the mean of the numbers at the draws of an own move and a reply
abbrev pub cell : {S : Type 0} → GameModel S → Side → S → (ℕ → ℕ → ℕ → ℤ) → ℕ → ℕ → ℤ
cell m side s numbers own reply = rounded side (sum_below (draws_of m side s own reply) (λ d. pos (chance_of m side s own reply d) *ℤ numbers own reply d))

-- what the weights are worth against a reply
abbrev pub worth : {S : Type 0} → GameModel S → Side → S → List ℕ → (ℕ → ℕ → ℕ → ℤ) → ℕ → ℤ
worth m side s weights numbers reply = sum_below (m.moves side s) (λ own. pos (slice_index weights own) *ℤ cell m side s numbers own reply)

-- the weights and the numbers of the turns prove the bound at the state
pub record IsStep {S : Type 0} (m : GameModel S) (side : Side) (s : S) (total : ℕ) (weights : List ℕ) (numbers : ℕ → ℕ → ℕ → ℤ) (bound : ℤ) : Type 0 where
  pub goes_on : 1 ≤ m.rank s
  pub one_each : length weights ≡ m.moves side s
  pub sums : sum weights ≡ total
  pub some : 1 ≤ total
  pub proves : (reply : ℕ) → reply < m.moves (other_side side) s → IsNoTighter side (pos total *ℤ bound) (worth m side s weights numbers reply)
