-- What a closed board has.
use Rattle.std.specs.Prelude.{◌≡◌, ◌≢◌, ℕ, zero, suc, ◌<◌, ◌≤◌, ℤ, List, [], ◌∷◌, ◌++◌, map, length, Option, None, Some, All, Contains}
use Rattle.sim_game.specs.declared.Side.{Side}
use Rattle.sim_game.specs.declared.Side.TheVariants.{One, Two}
use Rattle.sim_game.specs.Model.{GameModel}
use Rattle.sim_game.specs.Sides.{IsNoTighter}
use Rattle.plan_book.specs.declared.Entry.{Entry}
use Rattle.plan_book.specs.Books.{best_posted}
use Rattle.bounds_board.specs.Views.{IsInnerKey}
use Rattle.shared_board.specs.Words.{key_in_row, bound_in_row, as_bound}
use Rattle.shared_board.specs.Rule.{Has}
use Rattle.shared_board.specs.Passes.{known_key, seen_by}
use Rattle.shared_board.specs.Values.{BoardValue, PassValue}
use Rattle.shared_board.specs.declared.view.View.{View}
use Rattle.shared_board.specs.declared.close.Kept.{Kept}
use Rattle.shared_board.specs.declared.close.CloseError.{CloseError}
use Rattle.shared_board.specs.declared.close.CloseError.TheVariants.{MissingPass, NoMemory}

abbrev pub kept_row : List ℕ → ℕ → ℕ → Kept
kept_row words i k = record {
  key = k;
  lower = as_bound (bound_in_row words One i);
  upper =
      as_bound (bound_in_row words Two i);
}

abbrev pub kept_if : List ℕ → ℕ → ℕ → List Kept
kept_if words i zero = []
kept_if words i (suc k) = kept_row words i k ∷ []

-- the claimed rows among the first n, in order
abbrev pub kept_rows : List ℕ → ℕ → List Kept
kept_rows words zero = []
kept_rows words (suc n) = kept_rows words n ++ kept_if words n (key_in_row words n)

abbrev pub key_if : Option ℕ → List ℕ
key_if None = []
key_if (Some k) = k ∷ []

-- the keys that are known of the first n rows, in order
abbrev pub known_keys : List (ℕ × ℕ) → ℕ → List ℕ
known_keys ks zero = []
known_keys ks (suc n) = known_keys ks n ++ key_if (known_key ks n)

abbrev pub kept_bound : Side → Kept → ℤ
kept_bound One x = x.lower
kept_bound Two x = x.upper

-- no key stands twice
abbrev pub IsDistinct : List Kept → Type 0
IsDistinct [] = Unit {0}
IsDistinct (x ∷ xs) = ((y : Kept) → Has y xs → x.key ≢ y.key) × IsDistinct xs

-- a row of a key is kept
pub record HasKey (kept : List Kept) (key : ℕ) : Type 0 where
  pub row : Kept
  pub is_kept : Contains kept row
  pub is_key : row.key ≡ key

-- the key is that of a reachable state that is no end, and the bounds are the best of the book, else the opening ones
pub record IsKeptRow {S : Type 0} (m : GameModel S) (entries : List Entry) (x : Kept) : Type 0 where
  pub named : IsInnerKey m x.key
  pub best : (side : Side) → kept_bound side x ≡ best_posted m entries side x.key

-- the rows that are kept beside the book of the pass that closed the board
pub record AreKeptRows {S G : Type 0} (m : GameModel S) (rows : ℕ) (v : View G) (entries : List Entry)
    (kept : List Kept) : Type 0 where
  -- the keys are those that the pass knew, in the order of their rows
  pub keys : map (λ (x : Kept). x.key) kept ≡ known_keys v.keys rows
  pub few : length kept ≤ rows
  -- a pass that knew a key of each row leaves as many as there are rows
  pub full : ((i : ℕ) → i < rows → (k : ℕ) × Has (i, k) v.keys) → length kept ≡ rows
  pub distinct : IsDistinct kept
  pub each : All (IsKeptRow m entries) kept
  pub entered : All (λ e. HasKey kept e.key) entries
  -- each key that the pass knew is kept, and the book says no less of it than the pass had seen
  pub known : (i k : ℕ) → Has (i, k) v.keys → HasKey kept k
  pub no_looser : (side : Side) (key : ℕ) → IsNoTighter side (seen_by m v side key) (best_posted m entries side key)

-- why the board was not closed: all is as before
abbrev pub IsRefusal : {G S : Type 0} → BoardValue G → PassValue G → CloseError G S → Type 0
IsRefusal b p (MissingPass issued held b' p') = (issued ≡ p.view.issued) × (held ≡ length p.view.tickets)
    × (held < issued) × (b' ≡ b) × (p' ≡ p)
IsRefusal b p (NoMemory b' p') = (p.view.issued ≤ length p.view.tickets) × (b' ≡ b) × (p' ≡ p)
