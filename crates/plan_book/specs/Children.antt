-- The states that follow a state by the own moves of positive weight.
use Rattle.std.specs.Prelude.{ℕ, nat_eq, cond, List, [], ◌∷◌, slice_index}
use Rattle.sim_game.specs.declared.Side.{Side}
use Rattle.sim_game.specs.Model.{GameModel}
use Rattle.plan_book.specs.Entries.{concat_below}
use Rattle.sim_game.specs.Sides.{other_side, draws_of, child_of}

-- after an own move and a reply
abbrev pub children_of_pair : {S : Type 0} → GameModel S → Side → S → ℕ → ℕ → List S
children_of_pair m side s own reply = concat_below (draws_of m side s own reply) (λ d. child_of m side s own reply d ∷ [])

-- after an own move
abbrev pub children_of_move : {S : Type 0} → GameModel S → Side → S → ℕ → List S
children_of_move m side s own = concat_below (m.moves (other_side side) s) (children_of_pair m side s own)

-- after an own move, where its weight is positive
abbrev pub children_of_weighted : {S : Type 0} → GameModel S → Side → List ℕ → S → ℕ → List S
children_of_weighted m side weights s own = cond (nat_eq (slice_index weights own) 0) [] (children_of_move m side s own)

abbrev pub children_of : {S : Type 0} → GameModel S → Side → List ℕ → S → List S
children_of m side weights s = concat_below (m.moves side s) (children_of_weighted m side weights s)
