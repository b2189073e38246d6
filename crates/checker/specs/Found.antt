-- What a walk through the states that the rows of a sheet reach has found: at the place of a row the state of its key.
use Rattle.std.specs.Prelude.{◌≡◌, ℕ, ◌<◌, ◌≤◌, Option, None, Some, IsSome, MatchOption, List, length, map, get_or, slice_index}
use Rattle.sim_game.specs.Model.{GameModel, Turn, after_turn}
use Rattle.plan_book.specs.declared.Sheet.{Sheet}
use Rattle.plan_book.specs.declared.SheetRow.{SheetRow}
use Rattle.plan_book.specs.Sheets.{row_at, IsKeptTurn, IsReached}

abbrev pub key_of_row : List SheetRow → ℕ → ℕ
key_of_row rows place = slice_index (map (λ r. r.key) rows) place

abbrev pub state_at : {S : Type 0} → List (Option S) → ℕ → Option S
state_at found place = get_or found place None

-- the rows reach each state that is found, and it stands at the place of its key
pub record AreStates {S : Type 0} (m : GameModel S) (sheet : Sheet) (found : List (Option S)) : Type 0 where
  pub one_each : length found ≡ length sheet.rows
  pub reached : (place : ℕ) (s : S) → state_at found place ≡ Some s → IsReached m sheet.side (row_at sheet.rows) s
  pub is_key : (place : ℕ) (s : S) → state_at found place ≡ Some s → m.key s ≡ key_of_row sheet.rows place

-- states are found, and none is lost
pub record FindsMore {S : Type 0} (m : GameModel S) (sheet : Sheet) (before after : List (Option S)) : Type 0 where
  pub states : AreStates m sheet after
  pub kept : (place : ℕ) (s : S) → state_at before place ≡ Some s → state_at after place ≡ Some s

-- a state is found where the key has a row
abbrev pub IsMarked : {S : Type 0} → List SheetRow → List (Option S) → ℕ → Type 0
IsMarked rows found key = (place : ℕ) → place < length rows → key_of_row rows place ≡ key → IsSome (state_at found place)

-- each state with a row that a kept turn leads to is found
abbrev pub IsStateFollowed : {S : Type 0} → GameModel S → Sheet → List (Option S) → S → Type 0
IsStateFollowed m sheet found s = (t : Turn) → IsKeptTurn m sheet.side (row_at sheet.rows) s t → IsMarked sheet.rows found (m.key (after_turn m s t))

-- the state that was found at the place is followed, if it is of the rank
abbrev pub IsFollowedAt : {S : Type 0} → GameModel S → Sheet → List (Option S) → List (Option S) → ℕ → ℕ → Type 0
IsFollowedAt {S} m sheet before after rank place = (s : S) → state_at before place ≡ Some s → m.rank s ≡ rank → IsStateFollowed m sheet after s

-- the walk has followed all states of a rank or of higher ones
pub record IsWalked {S : Type 0} (m : GameModel S) (sheet : Sheet) (found : List (Option S)) (rank : ℕ) : Type 0 where
  pub states : AreStates m sheet found
  pub root : IsMarked sheet.rows found (m.key m.root)
  pub followed : (s : S) → IsReached m sheet.side (row_at sheet.rows) s → rank ≤ m.rank s → IsStateFollowed m sheet found s

-- exactly the states with a row that the rows reach are found
pub record AreReached {S : Type 0} (m : GameModel S) (sheet : Sheet) (found : List (Option S)) : Type 0 where
  pub states : AreStates m sheet found
  pub whole : (s : S) → IsReached m sheet.side (row_at sheet.rows) s → IsMarked sheet.rows found (m.key s)

-- the state of the key, where the rows reach it
abbrev pub IsStateOf : {S : Type 0} → GameModel S → Sheet → ℕ → Option S → Type 0
IsStateOf {S} m sheet key state =
    MatchOption state ((s : S) → IsReached m sheet.side (row_at sheet.rows) s → ¬ (m.key s ≡ key)) (λ s. IsReached m sheet.side (row_at sheet.rows) s × (m.key s ≡ key))
