-- What moves and pairs of moves are worth, and how many nodes lie below them.
use Rattle.std.specs.Prelude.{ℕ, ◌-◌, ℤ}
use Rattle.sim_game.specs.declared.Side.{Side}
use Rattle.sim_game.specs.Model.{GameModel}
use Rattle.sums.specs.Sums.{count_below}
use Rattle.sim_game.specs.Sides.{other_side, draws_of, child_of, over_turns}
use Rattle.plan_book.specs.Steps.{cell}
use Rattle.plan_book.specs.Serial.{best_upto, serial_bound, tree_size}

-- the reward of a turn, with the serial bound of the state that follows
abbrev pub turn_value : {S : Type 0} → GameModel S → Side → S → ℕ → ℕ → ℕ → ℤ
turn_value m side s own reply draw = over_turns m side s (serial_bound m side) own reply draw

-- the serial bound over the draws of an own move and a reply
abbrev pub pair_value : {S : Type 0} → GameModel S → Side → S → ℕ → ℕ → ℤ
pair_value m side s own reply = cell m side s (turn_value m side s) own reply

-- that of an own move: the reply is the best for the other side
abbrev pub move_value : {S : Type 0} → GameModel S → Side → S → ℕ → ℤ
move_value m side s own = best_upto (other_side side) (m.moves (other_side side) s - 1) (pair_value m side s own)

abbrev pub pair_nodes : {S : Type 0} → GameModel S → Side → S → ℕ → ℕ → ℕ
pair_nodes m side s own reply = count_below (draws_of m side s own reply)
    (λ d. tree_size m (child_of m side s own reply d))

abbrev pub move_nodes : {S : Type 0} → GameModel S → Side → S → ℕ → ℕ
move_nodes m side s own = count_below (m.moves (other_side side) s) (pair_nodes m side s own)

-- the nodes below a state that is no end, without itself
abbrev pub inner_nodes : {S : Type 0} → GameModel S → Side → S → ℕ
inner_nodes m side s = count_below (m.moves side s) (move_nodes m side s)
