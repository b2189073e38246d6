-- The rules that the lists of a table keep, and the first that is broken.
use Rattle.std.specs.Prelude.{◌≡◌, ℕ, ◌+◌, ◌*◌, ◌/◌, ◌%◌, ℤ, pos, neg_ℤ, int_lt, int_le, Bool, not, ◌||◌, ◌&&◌, ◌==◌, nat_lt, nat_le, if◌then◌else◌, true, List, [], ◌∷◌, length, Option, Some, None}
use Rattle.std.specs.Option.{option_or}
use Rattle.std.specs.Ordering.{int_eq}
use Rattle.sums.specs.Sums.{count_below}
use Rattle.sums.specs.declared.TheConstants.{MOST_MOVES}
use Rattle.sim_game.specs.declared.TheConstants.{MOST_TURNS}
use Rattle.sim_game.specs.declared.Limits.{Limits}
use Rattle.sim_game.specs.declared.Limits.TheVariants.{Narrow, Wide}
use Rattle.sim_game.specs.declared.Side.TheVariants.{One, Two}
use Rattle.sim_game.specs.Model.{whole_chance}
use Rattle.text.specs.Faults.{first_some}
use Rattle.table.specs.declared.TableError.{TableError}
use Rattle.table.specs.declared.TableError.TheVariants as errors
use Rattle.table.specs.declared.rules.Rule.{Rule}
use Rattle.table.specs.declared.rules.Rule.TheVariants as rules
use Rattle.table.specs.declared.rules.CellRule.{CellRule}
use Rattle.table.specs.declared.rules.CellRule.TheVariants.{Draws, Weights, Order}
use Rattle.table.specs.Below.{all_below, first_below}
use Rattle.table.specs.Lists.{Lists, state_count, table_rank, table_moves, table_value, cells_of, place_at, draw_total, draws_end, first_draw, table_cell, end_at, draws_at, table_state, table_weight, next_rank, has_rewards}
use Rattle.table.specs.Totals.{state_total, AreStateTotals}

-- ---- the lists fit each other
-- an end has no moves, and the cells of another state stand behind those of the states before it
abbrev pub state_fits : Lists → ℕ → Bool
state_fits l s =
    if table_rank l s == 0
    then (table_moves l One s == 0) && (table_moves l Two s == 0)
    else int_eq (table_value l s) (pos (count_below s (cells_of l)))

-- the draws of a cell stand behind those of the cells before it
abbrev pub cell_fits : Lists → ℕ → Bool
cell_fits l place = nat_le (first_draw (table_cell l place)) (end_at l place)

-- there are no rewards, or one for each draw
abbrev pub are_rewards : Lists → Bool
are_rewards l = (length l.rewards == 0) || (2 * length l.rewards == length l.draws)

abbrev pub have_counts : Lists → Bool
have_counts l = (length l.moves == 2 * state_count l) && (length l.values == state_count l) && (length l.draws % 2 == 0) && are_rewards l

-- and there are no other cells, and no other draws
abbrev pub do_states_fit : Lists → Bool
do_states_fit l = all_below (state_count l) (state_fits l) && (length l.cells == count_below (state_count l) (cells_of l))

abbrev pub do_draws_fit : Lists → Bool
do_draws_fit l = all_below (length l.cells) (cell_fits l) && (draws_end l.cells (draw_total l) == 0)

abbrev pub do_fit : Lists → Bool
do_fit l = have_counts l && do_states_fit l && do_draws_fit l

-- ---- rules of one state
abbrev pub is_payoff : ℤ → Bool
is_payoff value = not (int_lt value (neg_ℤ (pos 4000)) || int_lt (pos 4000) value)

-- the most rows of a state, and the most cells of a row
abbrev pub most_table_moves : Limits → ℕ
most_table_moves Narrow = 32
most_table_moves Wide = MOST_MOVES

-- the most turns of a way
abbrev pub most_table_turns : Limits → ℕ
most_table_turns Narrow = 31
most_table_turns Wide = MOST_TURNS

abbrev pub are_moves : Limits → ℕ → Bool
are_moves limits moves = nat_le 1 moves && nat_le moves (most_table_moves limits)

abbrev pub is_rank : Limits → Lists → ℕ → Bool
is_rank limits l s = nat_le (table_rank l s) (most_table_turns limits) && ((table_rank l s == 0) || (table_rank l s == next_rank l s + 1))

-- ---- rules of one cell
abbrev pub are_few_draws : Lists → ℕ → Bool
are_few_draws l place = nat_le 1 (draws_at l place) && nat_le (draws_at l place) 13

abbrev pub is_weight : Lists → ℕ → ℕ → Bool
is_weight l place d = nat_le 1 (table_weight l place d)

abbrev pub are_weights : Lists → ℕ → Bool
are_weights l place = all_below (draws_at l place) (is_weight l place) && (count_below (draws_at l place) (table_weight l place) == whole_chance)

-- a draw of a cell names a state that stands behind the cell's own, and is there
abbrev pub draw_leads_on : Lists → ℕ → ℕ → ℕ → Bool
draw_leads_on l s place d = nat_lt s (table_state l place d) && nat_lt (table_state l place d) (state_count l)

abbrev pub leads_on : Lists → ℕ → ℕ → Bool
leads_on l s place = all_below (draws_at l place) (draw_leads_on l s place)

-- the cell at the place is one of the state, and keeps the rule
abbrev pub keeps : CellRule → Lists → ℕ → ℕ → Bool
keeps Draws l s place = are_few_draws l place
keeps Weights l s place = are_weights l place
keeps Order l s place = leads_on l s place

abbrev pub cell_error : CellRule → ℕ → ℕ → ℕ → TableError
cell_error Draws s row cell = errors.DrawsRange s row cell
cell_error Weights s row cell = errors.Weights s row cell
cell_error Order s row cell = errors.Order s row cell

-- what is said of a cell of the state, by its place among them, where it breaks the rule
abbrev pub fault_in : CellRule → Lists → ℕ → ℕ → Option TableError
fault_in rule l s k = if keeps rule l s (place_at l s k) then None else Some (cell_error rule s (k / table_moves l Two s) (k % table_moves l Two s))

-- the first of them
abbrev pub cell_fault : CellRule → Lists → ℕ → Option TableError
cell_fault rule l s = first_below (cells_of l s) (fault_in rule l s)

-- ---- the first that is broken
-- what is said of the state where it breaks the rule
abbrev pub fault_at : Rule → Lists → ℕ → Option TableError
fault_at rules.Payoff l s = if not (table_rank l s == 0) || is_payoff (table_value l s) then None else Some (errors.PayoffRange s)
fault_at (rules.Rows limits) l s = if (table_rank l s == 0) || are_moves limits (table_moves l One s) then None else Some (errors.RowsRange s)
fault_at (rules.Cells limits) l s = if (table_rank l s == 0) || are_moves limits (table_moves l Two s) then None else Some (errors.CellsRange s)
fault_at (rules.Each rule) l s = cell_fault rule l s
fault_at (rules.Turns limits) l s = if is_rank limits l s then None else Some (errors.Turns s)

-- what is said of the first state that breaks the rule
abbrev pub rule_fault : Rule → Lists → Option TableError
rule_fault rule l = first_below (state_count l) (fault_at rule l)

-- each cell leads to later states that are there
abbrev pub AreOrdered : Lists → Type 0
AreOrdered l = rule_fault (rules.Each Order) l ≡ None

abbrev pub lists_fault : Lists → Option TableError
lists_fault l = if do_fit l then None else Some errors.Lists

abbrev pub count_fault : Lists → Option TableError
count_fault l = if state_count l == 0 then Some errors.NoStates else None

-- the first but for the last rule
abbrev pub shape_fault : Limits → Lists → Option TableError
shape_fault limits l = first_some (
    lists_fault l ∷ count_fault l ∷
    rule_fault rules.Payoff l ∷ rule_fault (rules.Rows limits) l ∷ rule_fault (rules.Cells limits) l ∷
    rule_fault (rules.Each Draws) l ∷ rule_fault (rules.Each Weights) l ∷ rule_fault (rules.Each Order) l ∷
    rule_fault (rules.Turns limits) l ∷ [])

-- the sums from the state on are small
abbrev pub is_total : Lists → ℕ → Bool
is_total l s = int_le (neg_ℤ (pos 4000)) (state_total l One s) && int_le (state_total l Two s) (pos 4000)

abbrev pub total_fault_at : Lists → ℕ → Option TableError
total_fault_at l s = if is_total l s then None else Some (errors.Total s)

-- the last rule, where turns pay
abbrev pub total_fault : Lists → Option TableError
total_fault l = if has_rewards l then first_below (state_count l) (total_fault_at l) else None

abbrev pub first_fault : Limits → Lists → Option TableError
first_fault limits l = option_or (shape_fault limits l) (total_fault l)

-- the list has the totals of the states, where turns pay and no other rule is broken within the wide limits
abbrev pub HasTotals : Lists → List ℤ → Type 0
HasTotals l totals = has_rewards l ≡ true → shape_fault Wide l ≡ None → AreStateTotals l totals
