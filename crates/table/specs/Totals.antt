-- The least and the greatest sum that One can still get from a state on: rewards on the way, and the payoff of the end.
use Rattle.std.specs.Prelude.{◌≡◌, ℕ, zero, suc, ◌+◌, ◌-◌, ◌*◌, ◌<◌, ℤ, pos, neg_ℤ, ◌+ℤ◌, ◌≤ℤ◌, ◌==◌, if◌then◌else◌, List, length, slice_index_or, All}
use Rattle.sim_game.specs.declared.Side.{Side}
use Rattle.sim_game.specs.declared.Side.TheVariants.{One, Two}
use Rattle.table.specs.Below.{worst_upto}
use Rattle.table.specs.Lists.{Lists, state_count, table_rank, table_value, cells_of, place_at, draws_at, table_state, table_reward, has_rewards, least_of, greatest_of}

-- ---- of a state
-- a number for each turn: its reward, and a number of the state that follows
abbrev pub turn_total : Lists → (ℕ → ℤ) → ℕ → ℕ → ℤ
turn_total l f place d = table_reward l place d +ℤ f (table_state l place d)

-- the worst for a side over the draws of a cell
abbrev pub cell_total : Lists → Side → (ℕ → ℤ) → ℕ → ℤ
cell_total l side f place = worst_upto side (draws_at l place - 1) (turn_total l f place)

-- the worst for a side over the cells of a state
abbrev pub next_total : Lists → Side → (ℕ → ℤ) → ℕ → ℤ
next_total l side f s = worst_upto side (cells_of l s - 1) (λ k. cell_total l side f (place_at l s k))

-- the worst sum for a side by at most so many turns
abbrev pub total_within : Lists → Side → ℕ → ℕ → ℤ
total_within l side zero s = table_value l s
total_within l side (suc turns) s =
    if table_rank l s == 0 then table_value l s else next_total l side (total_within l side turns) s

-- the least sum for One, the greatest for Two
abbrev pub state_total : Lists → Side → ℕ → ℤ
state_total l side s = total_within l side (table_rank l s) s

-- ---- of the whole list
-- the least payoff of an end, and the greatest
abbrev pub worst_payoff : Lists → Side → ℤ
worst_payoff l One = least_of l (state_count l)
worst_payoff l Two = greatest_of l (state_count l)

-- between which lies whatever One still gets from a state on
abbrev pub table_bound : Lists → Side → ℕ → ℤ
table_bound l side s = if has_rewards l then state_total l side s else worst_payoff l side

-- and from any state of the list
abbrev pub table_range : Lists → Side → ℤ
table_range l side = if has_rewards l then worst_upto side (state_count l - 1) (state_total l side) else worst_payoff l side

-- ---- the list of totals
-- a number of a list that has two for each state: the least, then the greatest
abbrev pub total_in : List ℤ → Side → ℕ → ℤ
total_in totals One s = slice_index_or totals (2 * s) (pos 0)
total_in totals Two s = slice_index_or totals (2 * s + 1) (pos 0)

pub record AreStateTotals (l : Lists) (totals : List ℤ) : Type 0 where
  pub count : length totals ≡ 2 * state_count l
  pub each : (side : Side) (s : ℕ) → s < state_count l → total_in totals side s ≡ state_total l side s

-- ---- sizes
-- each reward is small
abbrev pub AreSmallRewards : List ℤ → Type 0
AreSmallRewards rewards = All (λ z. (neg_ℤ (pos 1000000) ≤ℤ z) × (z ≤ℤ pos 1000000)) rewards

-- no number is so far from 0 that a reward more would be too far
abbrev pub AreNear : List ℤ → Type 0
AreNear totals = (side : Side) (s : ℕ) → (neg_ℤ (pos 1000000000) ≤ℤ total_in totals side s) × (total_in totals side s ≤ℤ pos 1000000000)
