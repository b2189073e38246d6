-- Which bounds of a side are backed by plans, step by step.
use Rattle.std.specs.Prelude.{ℕ, ◌<◌, ◌≤◌, ℤ, ◌-ℤ◌, List, slice_index}
use Rattle.sim_game.specs.declared.Side.{Side}
use Rattle.sim_game.specs.Model.{GameModel, IsEnd}
use Rattle.sim_game.specs.Sides.{other_side, IsNoTighter, state_bound, end_bound, draws_of, child_of, turn_reward}
use Rattle.plan_book.specs.Steps.{IsStep}

pub data IsBacked {S : Type 0} (m : GameModel S) (side : Side) : S → ℤ → Type 0 where
  by_range : (s : S) (bound : ℤ) → IsNoTighter side bound (state_bound m side s) → IsBacked m side s bound
  by_end : (s : S) (bound : ℤ) → IsEnd m s → IsNoTighter side bound (end_bound m s) → IsBacked m side s bound
  by_step : (s : S) (bound : ℤ) (total : ℕ) (weights : List ℕ) (numbers : ℕ → ℕ → ℕ → ℤ) → IsStep m side s total weights numbers bound
      → ((own reply draw : ℕ) → own < m.moves side s → reply < m.moves (other_side side) s → draw < draws_of m side s own reply → 1 ≤ slice_index weights own
      → IsBacked m side (child_of m side s own reply draw) (numbers own reply draw -ℤ turn_reward m side s own reply draw))
      → IsBacked m side s bound
