-- Rows with the best bounds that their weights prove over the rows before them.
use Rattle.std.specs.Prelude.{◌≡◌, ℕ, ◌+◌, ◌<◌, ◌≤◌, ℤ, pos, ◌+ℤ◌, ◌≤ℤ◌, Option, None, Some, List, All, length, slice_index_or}
use Rattle.sim_game.specs.declared.Side.{Side}
use Rattle.sim_game.specs.declared.Side.TheVariants.{One, Two}
use Rattle.sim_game.specs.Model.{GameModel, Reachable}
use Rattle.sim_game.specs.Sides.{IsNoTighter, state_bound, over_turns}
use Rattle.plan_book.specs.declared.Sheet.{Sheet}
use Rattle.plan_book.specs.declared.SheetRow.{SheetRow}
use Rattle.plan_book.specs.Plans.{AreWeights}
use Rattle.plan_book.specs.Sheets.{row_at, bound_at}
use Rattle.plan_book.specs.Steps.{IsStep}
use Rattle.induction.specs.declared.PlannedState.{PlannedState}

-- the number lies within what holds of every value of the state
pub record IsWithinState {S : Type 0} (m : GameModel S) (s : S) (x : ℤ) : Type 0 where
  pub low : state_bound m One s ≤ℤ x
  pub high : x ≤ℤ state_bound m Two s

-- the word of a row's bound, 0 where there is no row
abbrev pub IsBoundWord : Option SheetRow → ℕ → Type 0
IsBoundWord None word = word ≡ 0
IsBoundWord (Some r) word = pos word ≡ r.bound +ℤ pos 8000000000

-- the bounds of rows as words, by the places of their states; each bound lies within what holds of its state
pub record ArePlaced {S : Type 0} (m : GameModel S) (number : S → ℕ) (rows : List SheetRow) (words : ℕ → ℕ) : Type 0 where
  pub held : (s : S) → Reachable m s → IsBoundWord (row_at rows (m.key s)) (words (number s))
  pub ranged : (s : S) (r : SheetRow) → Reachable m s → row_at rows (m.key s) ≡ Some r → IsWithinState m s r.bound

-- the numbers of a state's turns: rewards, with the bounds that the rows have at the states that follow
abbrev pub turn_numbers : {S : Type 0} → GameModel S → Side → List SheetRow → S → ℕ → ℕ → ℕ → ℤ
turn_numbers m side rows s = over_turns m side s (bound_at m side rows)

-- the weights prove the bound at the state over the rows, and none that is tighter
pub record IsBestStep {S : Type 0} (m : GameModel S) (side : Side) (s : S) (total : ℕ) (weights : List ℕ) (rows : List SheetRow) (bound : ℤ) : Type 0 where
  pub step : IsStep m side s total weights (turn_numbers m side rows s) bound
  pub tightest : (other : ℤ) → IsStep m side s total weights (turn_numbers m side rows s) other → IsNoTighter side other bound
  pub ranged : IsWithinState m s bound

-- the state goes on, and has whole weights
pub record IsOpenState {S : Type 0} (m : GameModel S) (side : Side) (total : ℕ) (p : PlannedState S) : Type 0 where
  pub reachable : Reachable m p.state
  pub is_rank : m.rank p.state ≡ p.rank
  pub goes_on : 1 ≤ p.rank
  pub whole : AreWeights (m.moves side p.state) total p.weights

-- the weights of the planned state prove the bound over the rows, and none that is tighter
abbrev pub IsBestOf : {S : Type 0} → GameModel S → Side → ℕ → List SheetRow → PlannedState S → ℤ → Type 0
IsBestOf m side total rows p bound = IsBestStep m side p.state total p.weights rows bound

-- each state has the best bound that its weights prove over the rows
pub record AreBestBounds {S : Type 0} (m : GameModel S) (side : Side) (total : ℕ) (rows : List SheetRow) (states : List (PlannedState S)) (bounds : List ℤ) : Type 0 where
  pub as_many : length bounds ≡ length states
  pub each : (k : ℕ) (d : PlannedState S) (b : ℤ) → k < length states → IsBestOf m side total rows (slice_index_or states k d) (slice_index_or bounds k b)

-- the last states, all of one rank, have the best bounds that their weights prove over the rows
pub record AreNextBounds {S : Type 0} (m : GameModel S) (side : Side) (total : ℕ) (rows : List SheetRow) (states : List (PlannedState S)) (bounds : List ℤ) : Type 0 where
  pub start : ℕ
  pub reach : start + length bounds ≡ length states
  pub level : (j k : ℕ) (d : PlannedState S) → j < length bounds → k < length bounds
      → (slice_index_or states (start + j) d).rank ≡ (slice_index_or states (start + k) d).rank
  pub each : (k : ℕ) (d : PlannedState S) (b : ℤ) → k < length bounds → IsBestOf m side total rows (slice_index_or states (start + k) d) (slice_index_or bounds k b)

-- each row has the best bound that its weights prove over the bounds of the sheet
pub record HasBestBounds {S : Type 0} (m : GameModel S) (sheet : Sheet) : Type 0 where
  pub each : All (λ r. (s : S) × Reachable m s × (m.key s ≡ r.key) × IsBestStep m sheet.side s sheet.total r.weights sheet.rows r.bound) sheet.rows
