-- The bounds that pure plans prove where one side discloses its move first.
use Rattle.std.specs.Prelude.{ℕ, zero, suc, ◌+◌, ◌-◌, ℤ, nat_eq, cond}
use Rattle.sim_game.specs.declared.Side.{Side}
use Rattle.sim_game.specs.declared.Side.TheVariants.{One, Two}
use Rattle.sim_game.specs.Model.{GameModel}
use Rattle.sums.specs.Sums.{count_below}
use Rattle.sim_game.specs.Sides.{other_side, better, end_bound, over_turns}
use Rattle.plan_book.specs.Steps.{cell}

-- the best for a side of f 0 to f last
abbrev pub best_upto : Side → ℕ → (ℕ → ℤ) → ℤ
best_upto side zero f = f 0
best_upto side (suc last) f = better side (best_upto side last f) (f (suc last))

-- the serial bound of a side by at most so many turns: it names its move first
abbrev pub serial_within : {S : Type 0} → GameModel S → Side → ℕ → S → ℤ
serial_within m side zero s = end_bound m s
serial_within m side (suc turns) s =
    cond (nat_eq (m.rank s) 0)
    (end_bound m s)
    (best_upto side (m.moves side s - 1) (λ own. best_upto (other_side side) (m.moves (other_side side) s - 1) (λ reply.
    cell m side s (over_turns m side s (λ t. serial_within m side turns t)) own reply)))

abbrev pub serial_bound : {S : Type 0} → GameModel S → Side → S → ℤ
serial_bound m side s = serial_within m side (m.rank s) s

-- the nodes of the tree below a state, itself included, by at most so many turns
abbrev pub nodes_within : {S : Type 0} → GameModel S → ℕ → S → ℕ
nodes_within m zero s = 1
nodes_within m (suc turns) s =
    1 + count_below (m.moves One s) (λ a. count_below (m.moves Two s) (λ b. count_below (m.draws s a b) (λ d. nodes_within m turns (m.drawn s a b d))))

abbrev pub tree_size : {S : Type 0} → GameModel S → S → ℕ
tree_size m s = nodes_within m (m.rank s) s
