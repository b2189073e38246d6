-- The game of a table.
use Rattle.std.specs.Prelude.{◌≡◌, ℕ, ◌+◌, ◌*◌, ◌<◌, ◌≤◌, ℤ, ◌+ℤ◌, true}
use Rattle.sim_game.specs.declared.Side.{Side}
use Rattle.sim_game.specs.declared.Side.TheVariants.{One, Two}
use Rattle.sim_game.specs.Model.{GameModel, Turn, IsEnd, IsTurn, Reachable, after_turn}
use Rattle.sim_game.specs.Sides.{IsNoTighter}
use Rattle.table.specs.declared.State.{State}
use Rattle.table.specs.Lists.{Lists, state_count, table_rank, table_moves, table_value, place_at, draws_at, table_state, table_weight, table_reward, has_rewards, table_width, is_chance_free}
use Rattle.table.specs.Totals.{table_bound, table_range}

-- the place of the cell of two moves
abbrev pub place_of : Lists → ℕ → ℕ → ℕ → ℕ
place_of l s a b = place_at l s (a * table_moves l Two s + b)

abbrev pub table_game : Lists → GameModel State
table_game l = record {
  root = record { number = 0 };
  moves = λ side s. table_moves l side s.number;
  draws = λ s a b. draws_at l (place_of l s.number a b);
  chance = λ s a b d. table_weight l (place_of l s.number a b) d;
  drawn = λ s a b d. record { number = table_state l (place_of l s.number a b) d };
  payoff = λ s. table_value l s.number;
  reward = λ s a b d. table_reward l (place_of l s.number a b) d;
  least = λ s. table_bound l One s.number;
  most = λ s. table_bound l Two s.number;
  rank = λ s. table_rank l s.number;
  key = λ s. s.number;
  label = λ side s i. i;
  low = table_range l One;
  high = table_range l Two;
  width = table_width l;
  chance_free = is_chance_free l;
}

-- the reward of a turn, and the sum that is the worst for a side after it
abbrev pub turn_sum : Lists → Side → State → Turn → ℤ
turn_sum l side s t = (table_game l).reward s t.one t.two t.draw +ℤ table_bound l side (after_turn (table_game l) s t).number

-- what the game of a table that can be played keeps
pub record KeepsRules (l : Lists) : Type 0 where
  -- its states are those of the lists, and a turn leads to a later one
  pub states : (s : State) → Reachable (table_game l) s → s.number < state_count l
  pub behind : (s : State) (t : Turn) → Reachable (table_game l) s → IsTurn (table_game l) s t → s.number < (after_turn (table_game l) s t).number
  -- a rank counts the turns of the longest way to an end: each turn lowers it, and some turn by 1
  pub lower : (s : State) (t : Turn) → Reachable (table_game l) s → IsTurn (table_game l) s t → table_rank l (after_turn (table_game l) s t).number < table_rank l s.number
  pub longest : (s : State) → Reachable (table_game l) s → 1 ≤ table_rank l s.number
      → (t : Turn) × IsTurn (table_game l) s t × (table_rank l (after_turn (table_game l) s t).number + 1 ≡ table_rank l s.number)
  -- no turn gets a side less than its sum tells
  pub sum_holds : (side : Side) (s : State) (t : Turn) → Reachable (table_game l) s → IsTurn (table_game l) s t
      → IsNoTighter side (table_bound l side s.number) (turn_sum l side s t)
  -- where turns pay, some turn gets no more, and the sum at an end is its payoff
  pub sum_there : (side : Side) (s : State) → Reachable (table_game l) s → 1 ≤ table_rank l s.number → has_rewards l ≡ true
      → (t : Turn) × IsTurn (table_game l) s t × (table_bound l side s.number ≡ turn_sum l side s t)
  pub sum_at_end : (side : Side) (s : State) → Reachable (table_game l) s → has_rewards l ≡ true → IsEnd (table_game l) s
      → table_bound l side s.number ≡ table_value l s.number
