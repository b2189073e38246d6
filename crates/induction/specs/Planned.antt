-- A plan from the root down: states with whole weights, each of which the others reach.
use Rattle.std.specs.Prelude.{◌≡◌, ℕ, ◌≤◌, pos, Bool, true, false, cond, Option, IsSome, option_map, List, [], ◌∷◌, ◌++◌, take, length, map, All, nat_eq, slice_index}
use Rattle.std.specs.List.{IsDistinct, list_any}
use Rattle.sim_game.specs.declared.Side.{Side}
use Rattle.sim_game.specs.Model.{GameModel, Reachable, Turn, IsTurn, after_turn}
use Rattle.sim_game.specs.Sides.{own_move}
use Rattle.plan_book.specs.declared.SheetRow.{SheetRow}
use Rattle.plan_book.specs.Plans.{AreWeights}
use Rattle.plan_book.specs.Sheets.{row_at, IsReached}
use Rattle.induction.specs.declared.PlannedState.{PlannedState}
use Rattle.induction.specs.Undecided.{IsUndecided, KnowsUndecided}

-- the row that a planned state is to have, with no bound yet
abbrev pub open_row : {S : Type 0} → PlannedState S → SheetRow
open_row p = record { key = p.key; bound = pos 0; weights = p.weights }

-- the rows of planned states, by key
abbrev pub planned : {S : Type 0} → List (PlannedState S) → ℕ → Option SheetRow
planned states key = row_at (map open_row states) key

-- the weights of a row
abbrev pub weights_of_row : Option SheetRow → Option (List ℕ)
weights_of_row o = option_map (λ r. r.weights) o

-- the state goes on, is reached through rows, and has whole weights
pub record IsPlannedState {S : Type 0} (m : GameModel S) (side : Side) (total : ℕ) (rows : ℕ → Option SheetRow) (p : PlannedState S) : Type 0 where
  pub is_key : m.key p.state ≡ p.key
  pub is_rank : m.rank p.state ≡ p.rank
  pub goes_on : 1 ≤ p.rank
  pub reached : IsReached m side rows p.state
  pub whole : AreWeights (m.moves side p.state) total p.weights

-- the states differ, and each is reached through the others
pub record ArePlanned {S : Type 0} (m : GameModel S) (side : Side) (total : ℕ) (states : List (PlannedState S)) : Type 0 where
  pub distinct : IsDistinct nat_eq (map (λ p. p.key) states)
  pub each : All (IsPlannedState m side total (planned states)) states

-- each undecided state that follows by a move of positive weight has a row
abbrev pub HasNext : {S : Type 0} → GameModel S → Side → (ℕ → Option SheetRow) → PlannedState S → Type 0
HasNext m side rows p = (t : Turn) → IsTurn m p.state t → 1 ≤ slice_index p.weights (own_move side t) → IsUndecided m (after_turn m p.state t)
    → IsSome (rows (m.key (after_turn m p.state t)))

-- each undecided state that is reached through rows has a row
abbrev pub HasEachRow : {S : Type 0} → GameModel S → Side → (ℕ → Option SheetRow) → Type 0
HasEachRow {S} m side rows = (s : S) → IsReached m side rows s → IsUndecided m s → IsSome (rows (m.key s))

-- a plan from the root: it has each undecided state that it comes to, and no other state
pub record IsWholePlan {S : Type 0} (m : GameModel S) (side : Side) (total : ℕ) (states : List (PlannedState S)) : Type 0 where
  pub plan : ArePlanned m side total states
  pub undecided : All (λ p. IsUndecided m p.state) states
  pub whole : HasEachRow m side (planned states)

-- ---- the walk from the root down
-- the state is undecided, and reached through rows
pub record IsMetState {S : Type 0} (m : GameModel S) (side : Side) (rows : ℕ → Option SheetRow) (s : S) : Type 0 where
  pub undecided : IsUndecided m s
  pub reached : IsReached m side rows s

-- the states that were met differ and are reached through the planned ones, which are the first of them; the places that are
-- seen are theirs
pub record AreMet {S : Type 0} (m : GameModel S) (number : S → ℕ) (side : Side) (total : ℕ) (seen : ℕ → Bool) (met : List S) (states : List (PlannedState S)) : Type 0 where
  pub plan : ArePlanned m side total states
  pub undecided : All (λ p. IsUndecided m p.state) states
  pub first : map (λ p. p.key) states ≡ take (length states) (map m.key met)
  pub few : length states ≤ length met
  pub each : All (IsMetState m side (planned states)) met
  pub distinct : IsDistinct nat_eq (map m.key met)
  pub places : (s : S) → Reachable m s → seen (number s) ≡ list_any (nat_eq (m.key s)) (map m.key met)
  pub known : KnowsUndecided m number seen (length met)

-- the place of each undecided state that follows by a move of positive weight is seen
abbrev pub HasMetNext : {S : Type 0} → GameModel S → (S → ℕ) → Side → (ℕ → Bool) → PlannedState S → Type 0
HasMetNext m number side seen p = (t : Turn) → IsTurn m p.state t → 1 ≤ slice_index p.weights (own_move side t) → IsUndecided m (after_turn m p.state t)
    → seen (number (after_turn m p.state t)) ≡ true

-- the states that follow planned ones were met
pub record AreFollowed {S : Type 0} (m : GameModel S) (number : S → ℕ) (side : Side) (total : ℕ) (seen : ℕ → Bool) (met : List S) (states : List (PlannedState S)) : Type 0 where
  pub are_met : AreMet m number side total seen met states
  pub next : All (HasMetNext m number side seen) states

-- what was seen stays seen
abbrev pub IsKept : (ℕ → Bool) → (ℕ → Bool) → Type 0
IsKept old new = (place : ℕ) → old place ≡ true → new place ≡ true

-- the walk has come to a state: it is decided or was met before, or it is met now
pub data HasCome {S : Type 0} (m : GameModel S) (number : S → ℕ) (s : S) (old new : ℕ → Bool) (met now : List S) : Type 0 where
  met_before : (IsUndecided m s → old (number s) ≡ true) → new ≡ old → now ≡ met → HasCome m number s old new met now
  met_now : IsUndecided m s → old (number s) ≡ false → ((place : ℕ) → new place ≡ cond (nat_eq (number s) place) true (old place)) → now ≡ met ++ s ∷ []
      → HasCome m number s old new met now
