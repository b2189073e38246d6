-- Plans for games without draws, whose histories are lists of both sides' moves, and what they guarantee.
use Rattle.std.specs.Prelude.{ℕ, zero, suc, ◌*◌, ◌^◌, ◌≤◌, ℤ, pos, ◌+ℤ◌, ◌*ℤ◌, Bool, true, false, ◌&&◌, cond, nat_eq, Option, None, Some, option_map, List, [], ◌∷◌, ◌++◌, length, map, sum, slice_index}
use Rattle.std.specs.List.{filter_map}
use Rattle.sim_game.specs.declared.Side.{Side}
use Rattle.sim_game.specs.declared.Side.TheVariants.{One, Two}
use Rattle.sim_game.specs.Model.{GameModel, Turn, bound_scale}
use Rattle.sim_game.specs.Sides.{IsNoTighter}
use Rattle.sums.specs.Sums.{sum_below}
use Rattle.plan_book.specs.PlainGames.{next_state, plain_reward}
use Rattle.plan_book.specs.Plans.{Place, PlanRow, Plan, AtKey, AtHistory, one_move}

-- a move of each side
pub record Moves : Type 0 where
  pub one : ℕ
  pub two : ℕ

pub data PlainPlace : Type 0 where
  OfKey : ℕ → PlainPlace
  OfMoves : List Moves → PlainPlace

pub record PlainRow : Type 0 where
  pub place : PlainPlace
  pub weights : List ℕ

pub record PlainPlan : Type 0 where
  pub total : ℕ
  pub rows : List PlainRow

abbrev pub same_moves : List Moves → List Moves → Bool
same_moves [] [] = true
same_moves [] (u ∷ k) = false
same_moves (t ∷ h) [] = false
same_moves (t ∷ h) (u ∷ k) = (nat_eq t.one u.one && nat_eq t.two u.two) && same_moves h k

abbrev pub is_plain_place : PlainPlace → ℕ → List Moves → Bool
is_plain_place (OfKey k) key history = nat_eq k key
is_plain_place (OfMoves h) key history = same_moves h history

-- the weights of the first row of the place that has one weight a move and the right total, else all on the first move
abbrev pub plain_row_weights : List PlainRow → ℕ → List Moves → ℕ → ℕ → List ℕ
plain_row_weights [] key history count total = one_move total count 0
plain_row_weights (r ∷ rows) key history count total =
    cond (is_plain_place r.place key history && (nat_eq (length r.weights) count && nat_eq (sum r.weights) total)) r.weights (plain_row_weights rows key history count total)

abbrev pub plain_weights : {S : Type 0} → GameModel S → Side → PlainPlan → S → List Moves → List ℕ
plain_weights m side plan s history = plain_row_weights plan.rows (m.key s) history (m.moves side s) plan.total

-- the expected sum of what is paid from a state on, times the product of both totals for each of so many turns
abbrev pub plain_sum : {S : Type 0} → GameModel S → PlainPlan → PlainPlan → ℕ → S → List Moves → ℤ
plain_sum m one two zero s history = m.payoff s
plain_sum m one two (suc turns) s history =
    cond (nat_eq (m.rank s) 0)
    (pos ((one.total * two.total) ^ suc turns) *ℤ m.payoff s)
    (sum_below (m.moves One s) (λ a. sum_below (m.moves Two s) (λ b.
    pos (slice_index (plain_weights m One one s history) a * slice_index (plain_weights m Two two s history) b)
    *ℤ (pos ((one.total * two.total) ^ turns) *ℤ plain_reward m s a b +ℤ plain_sum m one two turns (next_state m s a b) (history ++ record { one = a; two = b } ∷ [])))))

-- the same of a plan of a side and one of the other side
abbrev pub plain_sum_of : {S : Type 0} → GameModel S → Side → PlainPlan → PlainPlan → ℕ → S → List Moves → ℤ
plain_sum_of m One own reply turns s history = plain_sum m own reply turns s history
plain_sum_of m Two own reply turns s history = plain_sum m reply own turns s history

pub record PlainGuarantees {S : Type 0} (m : GameModel S) (side : Side) (own : PlainPlan) (bound : ℤ) : Type 0 where
  pub some : 1 ≤ own.total
  pub against : (reply : PlainPlan) → 1 ≤ reply.total
      → IsNoTighter side (pos ((own.total * reply.total) ^ m.rank m.root) *ℤ bound) (pos bound_scale *ℤ plain_sum_of m side own reply (m.rank m.root) m.root [])

-- ---- plans with and without draws
-- the history of the moves in which each draw is the first
abbrev pub first_draws : List Moves → List Turn
first_draws history = map (λ t. record { one = t.one; two = t.two; draw = 0 }) history

-- the moves of a history in which each draw is the first
abbrev pub moves_of : List Turn → Option (List Moves)
moves_of [] = Some []
moves_of (t ∷ h) = cond (nat_eq t.draw 0) (option_map (λ k. record { one = t.one; two = t.two } ∷ k) (moves_of h)) None

abbrev pub plain_place : Place → Option PlainPlace
plain_place (AtKey k) = Some (OfKey k)
plain_place (AtHistory h) = option_map OfMoves (moves_of h)

abbrev pub plain_row : PlanRow → Option PlainRow
plain_row r = option_map (λ place. record { place = place; weights = r.weights }) (plain_place r.place)

-- the plan, with no rows for histories in which another draw than the first was made
abbrev pub without_draws : Plan → PlainPlan
without_draws plan = record { total = plan.total; rows = filter_map plain_row plan.rows }

abbrev pub drawn_place : PlainPlace → Place
drawn_place (OfKey k) = AtKey k
drawn_place (OfMoves h) = AtHistory (first_draws h)

-- the plan, where each history has the first draws
abbrev pub with_draws : PlainPlan → Plan
with_draws plan = record { total = plan.total; rows = map (λ r. record { place = drawn_place r.place; weights = r.weights }) plan.rows }
