-- What holds of the words of a board and of the views of its seats between any two steps.
use Rattle.std.specs.Prelude.{◌≡◌, ◌≢◌, ◌⊎◌, ℕ, suc, ◌+◌, ◌*◌, ◌<◌, ◌≤◌, true, false, List, [], ◌∷◌, length, slice_index, slice_index_or, replicate, Some, None, cond, eqb, ltb}
use mathlib.Core.Option.{some}
use lib.ListN.{get_elem?}
use Rattle.atomic_table.specs.Table.{State}
use Rattle.sim_game.specs.declared.Side.{Side}
use Rattle.sim_game.specs.declared.Side.TheVariants.{One, Two}
use Rattle.sim_game.specs.Model.{GameModel}
use Rattle.bounds_board.specs.Views.{IsInnerKey}
use Rattle.shared_board.specs.Words.{IsLooser, row_after, key_in_row, bound_in_row, opening_word, IsProved}
use Rattle.shared_board.specs.declared.view.View.{View}

-- x stands in the list
abbrev pub Has : {A : Type 0} → A → List A → Type 0
Has x [] = ⊥
Has x (y ∷ ys) = (x ≡ y) ⊎ Has x ys

-- an element of the list has the property
abbrev pub Somewhere : {A : Type 0} → List A → (A → Type 0) → Type 0
Somewhere xs P = (j : ℕ) × (x : _) × (get_elem? xs j ≡ some x) × P x

-- how often n stands in the list
abbrev pub times : ℕ → List ℕ → ℕ
times n [] = 0
times n (x ∷ xs) = cond (eqb n x) 1 0 + times n xs

-- f of each, added up
abbrev pub total : {A : Type 0} → (A → ℕ) → List A → ℕ
total f [] = 0
total f (x ∷ xs) = f x + total f xs

abbrev pub once_below : ℕ → ℕ → ℕ
once_below n limit = cond (ltb n limit) 1 0

-- the first for One, the second for Two
abbrev pub for_one : {A : Type 0} → Side → A → A → A
for_one One a b = a
for_one Two a b = b

module _ {G : Type 0} where
  -- the bounds of a side that a view has seen, a row each
  abbrev pub seen : Side → View G → List ℕ
  seen side v = for_one side v.lower v.upper

  abbrev pub with_seen : Side → List ℕ → View G → View G
  with_seen side bounds v = record v { lower = for_one side bounds v.lower; upper = for_one side v.upper bounds }

  -- the view of the first seat
  abbrev pub first_view : G → ℕ → ℕ → ℕ → View G
  first_view g rows low high =
      record {
        game = Some g;
        lead = true;
        issued = 1;
        tickets = 0 ∷ [];
        keys = [];
        lower = replicate rows low;
        upper =
            replicate rows high;
        posted = [];
        loads = 0;
      }

  -- what a join leaves of the other view
  abbrev pub spent_view : View G
  spent_view = record {
    game = None;
    lead = false;
    issued = 0;
    tickets = [];
    keys = [];
    lower = [];
    upper = [];
    posted =
        [];
    loads = 0;
  }

abbrev pub IsWordInRange : {S : Type 0} → GameModel S → ℕ → Type 0
IsWordInRange m x = (opening_word m One ≤ x) × (x ≤ opening_word m Two)

module _ {S G : Type 0} (m : GameModel S) where
  -- the tightest bound of the row that the view has seen, else the opening one
  abbrev pub seen_at : Side → View G → ℕ → ℕ
  seen_at side v i = slice_index_or (seen side v) i (opening_word m side)

  -- A posted bound is of a row whose key the view knows, in range, proved for that key, and no tighter than what the
  -- view has seen there
  pub record IsPostedWord (v : View G) (i : ℕ) (side : Side) (x : ℕ) : Type 0 where
    pub key : ℕ
    pub known : Has (i, key) v.keys
    pub in_range : IsWordInRange m x
    pub proved : IsProved m side key x
    pub seen_too : IsLooser side x (seen_at side v i)

module _ {S G : Type 0} (m : GameModel S) (g : G) (rows : ℕ) where
  -- what holds of the view of seat j, where seat `head` is the lead's and it has issued so many tickets
  pub record IsConsistentView (words : List ℕ) (head issued j : ℕ) (v : View G) : Type 0 where
    pub leads : v.lead ≡ true → (j ≡ head) × (v.issued ≡ issued)
    pub follows : v.lead ≡ false → v.issued ≡ 0
    pub idle : v.tickets ≡ [] → (v.lead ≡ false) × (v.posted ≡ []) × (v.keys ≡ [])
    pub same_game : v.tickets ≢ [] → v.game ≡ Some g
    pub shaped : v.tickets ≢ [] → (side : Side) → length (seen side v) ≡ rows
    pub knows : (i k : ℕ) → Has (i, k) v.keys → (i < rows) × (key_in_row words i ≡ suc k)
    pub no_tighter : (side : Side) (i : ℕ) → i < rows → IsLooser side (seen_at m side v i) (bound_in_row words side i)
    pub backed : (i : ℕ) (side : Side) (x : ℕ) → Has (i, side, x) v.posted → IsPostedWord m v i side x

  -- what holds of a row
  pub record IsRow (words : List ℕ) (i : ℕ) : Type 0 where
    -- from the key's home to its row, wrapping round, no row is free
    pub reached : (k : ℕ) → key_in_row words i ≡ suc k → (t : ℕ) × (t < rows) × (row_after rows k t ≡ i)
        × ((u : ℕ) → u < t → key_in_row words (row_after rows k u) ≢ 0)
    pub named : (k : ℕ) → key_in_row words i ≡ suc k → IsInnerKey m k
    pub single : (k j : ℕ) → key_in_row words i ≡ suc k → j < rows → key_in_row words j ≡ suc k → i ≡ j
    pub free : key_in_row words i ≡ 0 → (side : Side) → bound_in_row words side i ≡ opening_word m side

  pub record IsConsistent (s : State (Unit {0}) (View G)) : Type 0 where
    pub wide : length s.words ≡ 3 * rows + 1
    pub zero_first : slice_index s.words 0 ≡ 0
    -- the lead's seat, and how many tickets it has issued
    pub head : ℕ
    pub issued : ℕ
    pub few : (1 ≤ issued) × (issued ≤ 65535)
    pub led : (v : View G) × (get_elem? s.views head ≡ some v) × (v.lead ≡ true)
    -- each ticket below is held once, and no other ticket is
    pub held : (n : ℕ) → total (λ (v : View G). times n v.tickets) s.views ≡ once_below n issued
    pub each_view : (j : ℕ) (v : View G) → get_elem? s.views j ≡ some v → IsConsistentView s.words head issued j v
    pub each_row : (i : ℕ) → i < rows → IsRow s.words i
    -- a bound that is not the opening one was posted
    pub posted : (side : Side) (i : ℕ) → i < rows → bound_in_row s.words side i ≢ opening_word m side
        → Somewhere s.views (λ v. Has (i, side, bound_in_row s.words side i) v.posted)
    -- the key of a claimed row is known to a view, which holds a ticket, since a view that holds none knows no key
    pub claimed : (i k : ℕ) → i < rows → key_in_row s.words i ≡ suc k → Somewhere s.views (λ v. Has (i, k) v.keys)
