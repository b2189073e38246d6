-- Sheets: a plan of a side with a bound in each of its states.
use Rattle.std.specs.Prelude.{◌≡◌, ℕ, ◌≤◌, ℤ, ◌≤ℤ◌, nat_eq, cond, Option, None, Some, IsSomeAnd, List, [], ◌∷◌, slice_index, map, All}
use Rattle.std.specs.List.Sorted.{IsStrictlyIncreasing}
use Rattle.sim_game.specs.declared.Side.{Side}
use Rattle.sim_game.specs.declared.Side.TheVariants.{One, Two}
use Rattle.sim_game.specs.Model.{GameModel, Turn, IsTurn, after_turn, after_history}
use Rattle.plan_book.specs.declared.Sheet.{Sheet}
use Rattle.plan_book.specs.declared.SheetRow.{SheetRow}
use Rattle.plan_book.specs.Plans.{Plan, AtKey}
use Rattle.sim_game.specs.Sides.{state_bound, end_bound, own_move, over_turns}
use Rattle.plan_book.specs.Steps.{IsStep}

-- the first row of the key
abbrev pub row_at : List SheetRow → ℕ → Option SheetRow
row_at [] key = None
row_at (r ∷ rows) key = cond (nat_eq r.key key) (Some r) (row_at rows key)

abbrev pub bound_or : {S : Type 0} → GameModel S → Side → S → Option SheetRow → ℤ
bound_or m side s None = cond (nat_eq (m.rank s) 0) (end_bound m s) (state_bound m side s)
bound_or m side s (Some r) = r.bound

-- the bound of the state's row, else the payoff of an end, else what holds of every value of the state
abbrev pub bound_at : {S : Type 0} → GameModel S → Side → List SheetRow → S → ℤ
bound_at m side rows s = bound_or m side s (row_at rows (m.key s))

-- a turn from a state that has a row, by an own move of positive weight
pub record IsKeptTurn {S : Type 0} (m : GameModel S) (side : Side) (rows : ℕ → Option SheetRow) (s : S) (t : Turn) : Type 0 where
  pub turn : IsTurn m s t
  pub played : IsSomeAnd (rows (m.key s)) (λ r. 1 ≤ slice_index r.weights (own_move side t))

abbrev pub IsKeptHistory : {S : Type 0} → GameModel S → Side → (ℕ → Option SheetRow) → S → List Turn → Type 0
IsKeptHistory m side rows s [] = Unit {0}
IsKeptHistory m side rows s (t ∷ h) = IsKeptTurn m side rows s t × IsKeptHistory m side rows (after_turn m s t) h

-- the state is the root, or is reached from it through rows, which are given by key
pub record IsReached {S : Type 0} (m : GameModel S) (side : Side) (rows : ℕ → Option SheetRow) (s : S) : Type 0 where
  pub history : List Turn
  pub kept : IsKeptHistory m side rows m.root history
  pub leads : after_history m m.root history ≡ s

-- the row proves its bound, which lies in the range of its state, over the bounds of the sheet
pub record IsLawfulRow {S : Type 0} (m : GameModel S) (side : Side) (total : ℕ) (rows : List SheetRow) (r : SheetRow) : Type 0 where
  pub state : S
  pub is_key : m.key state ≡ r.key
  pub reached : IsReached m side (row_at rows) state
  pub low : state_bound m One state ≤ℤ r.bound
  pub high : r.bound ≤ℤ state_bound m Two state
  pub step : IsStep m side state total r.weights (over_turns m side state (bound_at m side rows)) r.bound

pub record IsLawful {S : Type 0} (m : GameModel S) (sheet : Sheet) : Type 0 where
  pub rising : IsStrictlyIncreasing (map (λ r. r.key) sheet.rows)
  pub rows : All (IsLawfulRow m sheet.side sheet.total sheet.rows) sheet.rows

-- the sheet as a plan
abbrev pub plan_of : Sheet → Plan
plan_of sheet = record { total = sheet.total; rows = map (λ r. record { place = AtKey r.key; weights = r.weights }) sheet.rows }

abbrev pub root_bound : {S : Type 0} → GameModel S → Sheet → ℤ
root_bound m sheet = bound_at m sheet.side sheet.rows m.root
