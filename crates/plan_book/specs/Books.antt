-- Books: lists of entries, the best bounds in them, and the sheet of the best entries.
use Rattle.std.specs.Prelude.{◌≡◌, ℕ, ◌<◌, ℤ, int_lt, nat_eq, Bool, true, false, ◌&&◌, cond, Option, None, Some, IfSome, option_and_then, option_map, slice_get, List, [], ◌∷◌, ◌++◌, length, fold, map, All}
use Rattle.std.specs.List.Sorted.{IsStrictlyIncreasing}
use Rattle.sim_game.specs.declared.Side.{Side}
use Rattle.sim_game.specs.declared.Side.TheVariants.{One, Two}
use Rattle.sim_game.specs.Model.{GameModel}
use Rattle.sim_game.specs.Sides.{IsNoTighter, better, opening_bound, state_bound, end_bound}
use Rattle.plan_book.specs.declared.Entry.{Entry}
use Rattle.plan_book.specs.declared.SheetRow.{SheetRow}
use Rattle.plan_book.specs.Entries.{IsEntry}
use Rattle.plan_book.specs.Sheets.{row_at, IsReached}

-- what callers see of a book; the room is how many entries it takes with no more memory
pub record BookView : Type 0 where
  pub total : ℕ
  pub entries : List Entry
  pub room : ℕ

abbrev pub same_side : Side → Side → Bool
same_side One One = true
same_side Two Two = true
same_side One Two = false
same_side Two One = false

-- ---- the best bounds
-- the best bound of a side at a key, else the opening bound
abbrev pub best_posted : {S : Type 0} → GameModel S → List Entry → Side → ℕ → ℤ
best_posted m [] side key = opening_bound m side
best_posted m (e ∷ es) side key =
    cond (same_side e.side side && nat_eq e.key key) (better side e.bound (best_posted m es side key)) (best_posted m es side key)

-- the payoff of an end, else the best bound of the side, or what holds of every value of the state where that is better
abbrev pub book_bound : {S : Type 0} → GameModel S → List Entry → Side → S → ℤ
book_bound m entries side s = cond (nat_eq (m.rank s) 0) (end_bound m s) (better side (best_posted m entries side (m.key s)) (state_bound m side s))

-- the number says no more for the side than the book has at the state
abbrev pub IsBooked : {S : Type 0} → GameModel S → List Entry → Side → S → ℤ → Type 0
IsBooked m entries side s x = IsNoTighter side x (book_bound m entries side s)

-- each entry is lawful, and rests on what the book itself has
abbrev pub IsClosed : {S : Type 0} → GameModel S → ℕ → List Entry → Type 0
IsClosed m total entries = All (IsEntry m total (IsBooked m entries)) entries

-- the list grew at its end, by elements with the property
pub record Grows (P : Entry → Type 0) (old new : List Entry) : Type 0 where
  pub more : List Entry
  pub joins : new ≡ old ++ more
  pub each : All P more

-- ---- the best entries
abbrev pub is_tighter : Side → ℤ → ℤ → Bool
is_tighter One x y = int_lt y x
is_tighter Two x y = int_lt x y

-- the entry is tighter than the kept one, if there is one
abbrev pub beats : Side → Entry → Option Entry → Bool
beats side e None = true
beats side e (Some f) = is_tighter side e.bound f.bound

-- what is kept for a key after one more entry
abbrev pub better_entry : Side → ℕ → Option Entry → Entry → Option Entry
better_entry side key kept e = cond (same_side e.side side && (nat_eq e.key key && beats side e kept)) (Some e) kept

-- the first entry of the tightest bound
abbrev pub best_entry : Side → List Entry → ℕ → Option Entry
best_entry side entries key = fold (better_entry side key) None entries

abbrev pub row_of : Entry → SheetRow
row_of e = record { key = e.key; bound = e.bound; weights = e.weights }

abbrev pub best_row : Side → List Entry → ℕ → Option SheetRow
best_row side entries key = option_map row_of (best_entry side entries key)

-- the best entries of the root and of each state that they reach, in key order
pub record IsBestSheet {S : Type 0} (m : GameModel S) (side : Side) (entries : List Entry) (rows : List SheetRow) : Type 0 where
  pub rising : IsStrictlyIncreasing (map (λ r. r.key) rows)
  pub kept : (s : S) → IsReached m side (best_row side entries) s → row_at rows (m.key s) ≡ best_row side entries (m.key s)
  pub only : All (λ r. (s : S) × IsReached m side (best_row side entries) s × (m.key s ≡ r.key) × (best_row side entries r.key ≡ Some r)) rows

-- ---- what the search for the best entries finds
-- the places of the best entries, by key
pub record ArePlaces (side : Side) (entries : List Entry) (places : ℕ → Option ℕ) : Type 0 where
  pub within : (key : ℕ) → IfSome (places key) (λ i. i < length entries)
  pub best : (key : ℕ) → option_and_then (slice_get entries) (places key) ≡ best_entry side entries key
