-- What differs between the two players: whose move is whose, and which way a bound points.
use Rattle.std.specs.Prelude.{ℕ, ℤ, pos, ◌+ℤ◌, ◌-ℤ◌, ◌*ℤ◌, ◌≤ℤ◌, ◌<ℤ◌}
use Rattle.std.specs.Int.{int_max, int_min}
use Rattle.sums.specs.Quotients.{floor_quotient, ceiling_quotient}
use Rattle.sim_game.specs.declared.Side.{Side}
use Rattle.sim_game.specs.declared.Side.TheVariants.{One, Two}
use Rattle.sim_game.specs.Model.{GameModel, Turn, bound_scale}

abbrev pub other_side : Side → Side
other_side One = Two
other_side Two = One

-- ---- bounds
-- the bound says no more for the side than the value: One's bounds are lower and Two's upper
abbrev pub IsNoTighter : Side → ℤ → ℤ → Type 0
IsNoTighter One bound value = bound ≤ℤ value
IsNoTighter Two bound value = value ≤ℤ bound

-- the bound says more for the side than the other
abbrev pub IsTighter : Side → ℤ → ℤ → Type 0
IsTighter One bound other = other <ℤ bound
IsTighter Two bound other = bound <ℤ other

-- the better of two numbers for a side
abbrev pub better : Side → ℤ → ℤ → ℤ
better One x y = int_max x y
better Two x y = int_min x y

-- the quotient by a positive number, rounded so that it says no more for the side
abbrev pub quotient : Side → ℕ → ℤ → ℤ
quotient One k x = floor_quotient k x
quotient Two k x = ceiling_quotient k x

-- what holds of every value of every state, by the range of payoffs
abbrev pub opening_bound : {S : Type 0} → GameModel S → Side → ℤ
opening_bound m One = pos bound_scale *ℤ m.low
opening_bound m Two = pos bound_scale *ℤ m.high

-- what holds of every value of a state
abbrev pub state_bound : {S : Type 0} → GameModel S → Side → S → ℤ
state_bound m One s = pos bound_scale *ℤ m.least s
state_bound m Two s = pos bound_scale *ℤ m.most s

abbrev pub end_bound : {S : Type 0} → GameModel S → S → ℤ
end_bound m s = pos bound_scale *ℤ m.payoff s

-- ---- moves
-- the move of One, from an own move of the side and a reply
abbrev pub move_of_one : Side → ℕ → ℕ → ℕ
move_of_one One own reply = own
move_of_one Two own reply = reply

abbrev pub move_of_two : Side → ℕ → ℕ → ℕ
move_of_two One own reply = reply
move_of_two Two own reply = own

abbrev pub turn_of : Side → ℕ → ℕ → ℕ → Turn
turn_of side own reply draw = record { one = move_of_one side own reply; two = move_of_two side own reply; draw = draw }

-- the side's move in a turn
abbrev pub own_move : Side → Turn → ℕ
own_move One t = t.one
own_move Two t = t.two

abbrev pub draws_of : {S : Type 0} → GameModel S → Side → S → ℕ → ℕ → ℕ
draws_of m side s own reply = m.draws s (move_of_one side own reply) (move_of_two side own reply)

abbrev pub chance_of : {S : Type 0} → GameModel S → Side → S → ℕ → ℕ → ℕ → ℕ
chance_of m side s own reply draw = m.chance s (move_of_one side own reply) (move_of_two side own reply) draw

abbrev pub child_of : {S : Type 0} → GameModel S → Side → S → ℕ → ℕ → ℕ → S
child_of m side s own reply draw = m.drawn s (move_of_one side own reply) (move_of_two side own reply) draw

-- ---- rewards
-- what a turn pays One, as a bound
abbrev pub turn_reward : {S : Type 0} → GameModel S → Side → S → ℕ → ℕ → ℕ → ℤ
turn_reward m side s own reply draw = pos bound_scale *ℤ m.reward s (move_of_one side own reply) (move_of_two side own reply) draw

-- a number for each turn: its reward, and a number of the state that follows
abbrev pub over_turns : {S : Type 0} → GameModel S → Side → S → (S → ℤ) → ℕ → ℕ → ℕ → ℤ
over_turns m side s f own reply draw = turn_reward m side s own reply draw +ℤ f (child_of m side s own reply draw)

-- a fact of the state that follows, about what is left of a turn's number
abbrev pub after_reward : {S : Type 0} → GameModel S → Side → S → ℕ → ℕ → ℕ → (S → ℤ → Type 0) → ℤ → Type 0
after_reward m side s own reply draw P x = P (child_of m side s own reply draw) (x -ℤ turn_reward m side s own reply draw)
