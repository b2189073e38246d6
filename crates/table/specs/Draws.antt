-- The draws of a cell, by their weights.
use Rattle.std.specs.Prelude.{◌≡◌, ℕ, ◌+◌, ◌*◌, ◌<◌, ◌≤◌}
use Rattle.sums.specs.Sums.{count_below}
use Rattle.sim_game.specs.Model.{whole_chance}
use Rattle.table.specs.Lists.{Lists, count_in, draw_total}

-- the weight of the draw of this number behind the first
abbrev pub weight_from : Lists → ℕ → ℕ → ℕ
weight_from l first d = count_in l.draws (2 * (first + d) + 1)

-- so many draws from the first on are all that can happen
pub record AreDraws (l : Lists) (first count : ℕ) : Type 0 where
  pub within : first + count ≤ draw_total l
  pub few : count ≤ 13
  pub weight_low : (d : ℕ) → d < count → 1 ≤ weight_from l first d
  pub weight_sum : count_below count (weight_from l first) ≡ whole_chance
