-- Games without draws: one state follows a move of each side.
use Rattle.std.specs.Prelude.{◌≢◌, ℕ, zero, suc, ◌+◌, ◌<◌, ◌≤◌, ℤ}
use Rattle.sim_game.specs.declared.Side.{Side}
use Rattle.sim_game.specs.declared.Side.TheVariants.{One, Two}
use Rattle.sim_game.specs.Model.{GameModel}
use Rattle.sim_game.specs.Sides.{move_of_one, move_of_two}
use Rattle.sums.specs.Sums.{count_below}

abbrev pub next_state : {S : Type 0} → GameModel S → S → ℕ → ℕ → S
next_state m s a b = m.drawn s a b 0

-- the state after an own move of a side and a reply
abbrev pub next_of : {S : Type 0} → GameModel S → Side → S → ℕ → ℕ → S
next_of m side s own reply = next_state m s (move_of_one side own reply) (move_of_two side own reply)

-- what both moves pay One, besides what follows them
abbrev pub plain_reward : {S : Type 0} → GameModel S → S → ℕ → ℕ → ℤ
plain_reward m s a b = m.reward s a b 0

-- the same of an own move of a side and a reply
abbrev pub reward_of : {S : Type 0} → GameModel S → Side → S → ℕ → ℕ → ℤ
reward_of m side s own reply = plain_reward m s (move_of_one side own reply) (move_of_two side own reply)

-- the state is the root, or follows such a state
pub data IsLedTo {S : Type 0} (m : GameModel S) : S → Type 0 where
  at_root : IsLedTo m m.root
  by_moves : (s : S) (a b : ℕ) → IsLedTo m s → a < m.moves One s → b < m.moves Two s → IsLedTo m (next_state m s a b)

-- the game has at most so many states: any that differ are no more
pub record HasAtMostStates {S : Type 0} (m : GameModel S) (most : ℕ) : Type 0 where
  pub few : (count : ℕ) (states : ℕ → S) → ((i : ℕ) → i < count → IsLedTo m (states i)) → ((i j : ℕ) → i < j → j < count → states i ≢ states j) → count ≤ most

-- the nodes of the tree below a state, itself included, by at most so many turns
abbrev pub plain_nodes : {S : Type 0} → GameModel S → ℕ → S → ℕ
plain_nodes m zero s = 1
plain_nodes m (suc turns) s = 1 + count_below (m.moves One s) (λ a. count_below (m.moves Two s) (λ b. plain_nodes m turns (next_state m s a b)))

abbrev pub plain_size : {S : Type 0} → GameModel S → S → ℕ
plain_size m s = plain_nodes m (m.rank s) s
