-- Which lists make a table that can be played.
use Rattle.std.specs.Prelude.{◌≡◌, ℕ, ◌+◌, ◌*◌, ◌<◌, ◌≤◌, ◌^◌, pos, neg_ℤ, ◌≤ℤ◌, true, length}
use Rattle.sums.specs.Sums.{count_below}
use Rattle.sums.specs.declared.TheConstants.{MOST_MOVES}
use Rattle.sim_game.specs.declared.TheConstants.{MOST_TURNS}
use Rattle.sim_game.specs.declared.Side.{Side}
use Rattle.sim_game.specs.declared.Side.TheVariants.{One, Two}
use Rattle.sim_game.specs.Model.{whole_chance}
use Rattle.table.specs.Lists.{Lists, state_count, table_rank, table_moves, table_value, cells_of, place_at, draw_total, draws_end, first_draw, table_cell, end_at, draws_at, table_state, table_weight, next_rank, has_rewards}
use Rattle.table.specs.Totals.{state_total}

-- the six lists fit each other
pub record AreFitting (l : Lists) : Type 0 where
  pub moves_count : length l.moves ≡ 2 * state_count l
  pub values_count : length l.values ≡ state_count l
  pub draws_count : length l.draws ≡ 2 * draw_total l
  -- an end has no moves
  pub ends : (side : Side) (s : ℕ) → s < state_count l → table_rank l s ≡ 0 → table_moves l side s ≡ 0
  -- the cells of a state stand behind those of the states before it, and there are no others
  pub places : (s : ℕ) → s < state_count l → 1 ≤ table_rank l s → table_value l s ≡ pos (count_below s (cells_of l))
  pub cells_count : length l.cells ≡ count_below (state_count l) (cells_of l)
  -- the draws of a cell stand behind those of the cells before it, and there are no others
  pub draws_begin : draws_end l.cells (draw_total l) ≡ 0
  pub draws_rise : (place : ℕ) → place < length l.cells → first_draw (table_cell l place) ≤ end_at l place

-- the cell at the place is one of the state, and keeps the rules
pub record IsTableCell (l : Lists) (s place : ℕ) : Type 0 where
  pub draws_low : 1 ≤ draws_at l place
  pub draws_high : draws_at l place ≤ 13
  pub weight_low : (d : ℕ) → d < draws_at l place → 1 ≤ table_weight l place d
  pub weight_sum : count_below (draws_at l place) (table_weight l place) ≡ whole_chance
  pub behind : (d : ℕ) → d < draws_at l place → s < table_state l place d
  pub there : (d : ℕ) → d < draws_at l place → table_state l place d < state_count l
  pub falls : (d : ℕ) → d < draws_at l place → table_rank l (table_state l place d) < table_rank l s

-- the table keeps all rules but the last within the wide limits
pub record IsTable (l : Lists) : Type 0 where
  pub some : 1 ≤ state_count l
  pub few : state_count l < 2 ^ 31
  pub few_draws : length l.draws < 2 ^ 31
  pub fits : AreFitting l
  pub payoff_low : (s : ℕ) → s < state_count l → table_rank l s ≡ 0 → neg_ℤ (pos 4000) ≤ℤ table_value l s
  pub payoff_high : (s : ℕ) → s < state_count l → table_rank l s ≡ 0 → table_value l s ≤ℤ pos 4000
  pub moves_low : (side : Side) (s : ℕ) → s < state_count l → 1 ≤ table_rank l s → 1 ≤ table_moves l side s
  pub moves_high : (side : Side) (s : ℕ) → s < state_count l → 1 ≤ table_rank l s → table_moves l side s ≤ MOST_MOVES
  pub cells : (s k : ℕ) → s < state_count l → 1 ≤ table_rank l s → k < cells_of l s → IsTableCell l s (place_at l s k)
  pub rank_high : (s : ℕ) → s < state_count l → table_rank l s ≤ MOST_TURNS
  -- a rank is 1 more than the greatest that can follow
  pub longest : (s : ℕ) → s < state_count l → 1 ≤ table_rank l s → table_rank l s ≡ next_rank l s + 1

-- and the last: where turns pay, the sums from each state on are small
abbrev pub AreSmallTotals : Lists → Type 0
AreSmallTotals l = has_rewards l ≡ true → (s : ℕ) → s < state_count l → (neg_ℤ (pos 4000) ≤ℤ state_total l One s) × (state_total l Two s ≤ℤ pos 4000)
