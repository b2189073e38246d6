-- Bounds in games without draws: values where one side discloses its move, steps, what is backed, and lawful sheets.
use Rattle.std.specs.Prelude.{◌≡◌, ℕ, zero, suc, ◌+◌, ◌-◌, ◌*◌, ◌<◌, ◌≤◌, ℤ, pos, ◌+ℤ◌, ◌-ℤ◌, ◌*ℤ◌, nat_eq, cond, Option, Some, IsSomeAnd, List, length, map, sum, slice_index, All}
use Rattle.std.specs.List.Sorted.{IsStrictlyIncreasing}
use Rattle.sim_game.specs.declared.Side.{Side}
use Rattle.sim_game.specs.declared.Side.TheVariants.{One, Two}
use Rattle.sim_game.specs.Model.{GameModel, IsEnd, bound_scale}
use Rattle.sim_game.specs.Resolution.{IsStageGap}
use Rattle.sim_game.specs.Sides.{other_side, IsNoTighter, state_bound, end_bound}
use Rattle.sums.specs.Sums.{sum_below}
use Rattle.plan_book.specs.Books.{best_row}
use Rattle.plan_book.specs.declared.Entry.{Entry}
use Rattle.plan_book.specs.declared.Sheet.{Sheet}
use Rattle.plan_book.specs.declared.SheetRow.{SheetRow}
use Rattle.plan_book.specs.PlainGames.{next_of, reward_of}
use Rattle.plan_book.specs.Serial.{best_upto}
use Rattle.plan_book.specs.Sheets.{row_at, bound_at}

-- the payoff of the game in which the side names its move first, by at most so many turns
abbrev pub plain_value_within : {S : Type 0} → GameModel S → Side → ℕ → S → ℤ
plain_value_within m side zero s = m.payoff s
plain_value_within m side (suc turns) s =
    cond (nat_eq (m.rank s) 0)
    (m.payoff s)
    (best_upto side (m.moves side s - 1) (λ own. best_upto (other_side side) (m.moves (other_side side) s - 1) (λ reply.
    reward_of m side s own reply +ℤ plain_value_within m side turns (next_of m side s own reply))))

abbrev pub plain_value : {S : Type 0} → GameModel S → Side → S → ℤ
plain_value m side s = plain_value_within m side (m.rank s) s

-- the weights and one number for each own move and reply prove the bound at the state
pub record IsPlainStep {S : Type 0} (m : GameModel S) (side : Side) (s : S) (total : ℕ) (weights : List ℕ) (numbers : ℕ → ℕ → ℤ) (bound : ℤ) : Type 0 where
  pub goes_on : 1 ≤ m.rank s
  pub one_each : length weights ≡ m.moves side s
  pub sums : sum weights ≡ total
  pub some : 1 ≤ total
  pub proves : (reply : ℕ) → reply < m.moves (other_side side) s → IsNoTighter side (pos total *ℤ bound) (sum_below (m.moves side s) (λ own. pos (slice_index weights own) *ℤ numbers own reply))

pub data IsPlainBacked {S : Type 0} (m : GameModel S) (side : Side) : S → ℤ → Type 0 where
  by_range : (s : S) (bound : ℤ) → IsNoTighter side bound (state_bound m side s) → IsPlainBacked m side s bound
  by_end : (s : S) (bound : ℤ) → IsEnd m s → IsNoTighter side bound (end_bound m s) → IsPlainBacked m side s bound
  by_step : (s : S) (bound : ℤ) (total : ℕ) (weights : List ℕ) (numbers : ℕ → ℕ → ℤ) → IsPlainStep m side s total weights numbers bound
      → ((own reply : ℕ) → own < m.moves side s → reply < m.moves (other_side side) s → 1 ≤ slice_index weights own
      → IsPlainBacked m side (next_of m side s own reply) (numbers own reply -ℤ pos bound_scale *ℤ reward_of m side s own reply))
      → IsPlainBacked m side s bound

-- the state is the root, or follows such a state that has a row, by an own move of positive weight and a reply
pub data IsPlainReached {S : Type 0} (m : GameModel S) (side : Side) (rows : ℕ → Option SheetRow) : S → Type 0 where
  at_root : IsPlainReached m side rows m.root
  by_moves : (s : S) (own reply : ℕ) → IsPlainReached m side rows s → own < m.moves side s → reply < m.moves (other_side side) s → IsSomeAnd (rows (m.key s)) (λ r. 1 ≤ slice_index r.weights own)
      → IsPlainReached m side rows (next_of m side s own reply)

pub record IsPlainRow {S : Type 0} (m : GameModel S) (side : Side) (total : ℕ) (rows : List SheetRow) (r : SheetRow) : Type 0 where
  pub state : S
  pub is_key : m.key state ≡ r.key
  pub reached : IsPlainReached m side (row_at rows) state
  pub low : IsNoTighter One (state_bound m One state) r.bound
  pub high : IsNoTighter Two (state_bound m Two state) r.bound
  pub step : IsPlainStep m side state total r.weights (λ own reply. pos bound_scale *ℤ reward_of m side state own reply +ℤ bound_at m side rows (next_of m side state own reply)) r.bound

pub record IsPlainLawful {S : Type 0} (m : GameModel S) (sheet : Sheet) : Type 0 where
  pub rising : IsStrictlyIncreasing (map (λ r. r.key) sheet.rows)
  pub rows : All (IsPlainRow m sheet.side sheet.total sheet.rows) sheet.rows

-- the best entries of the root and of each state that they reach, in key order
pub record IsPlainBestSheet {S : Type 0} (m : GameModel S) (side : Side) (entries : List Entry) (rows : List SheetRow) : Type 0 where
  pub rising : IsStrictlyIncreasing (map (λ r. r.key) rows)
  pub kept : (s : S) → IsPlainReached m side (best_row side entries) s → row_at rows (m.key s) ≡ best_row side entries (m.key s)
  pub only : All (λ r. (s : S) × IsPlainReached m side (best_row side entries) s × (m.key s ≡ r.key) × (best_row side entries r.key ≡ Some r)) rows

-- a stage's gap and its rounding, for each rank of the root
pub record IsPlainResolution {S : Type 0} (m : GameModel S) (weight resolution : ℕ) : Type 0 where
  pub gap : ℕ
  pub is_gap : IsStageGap m weight gap
  pub sums : resolution ≡ m.rank m.root * (gap + 1)
