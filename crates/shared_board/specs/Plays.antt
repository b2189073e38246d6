-- The views after each kind of step, and what a step tells its caller.
use Rattle.std.specs.Prelude.{◌≡◌, ◌≢◌, ℕ, suc, ◌+◌, ◌*◌, ◌<◌, ◌≤◌, max, false, ◌||◌, List, [], ◌∷◌, ◌++◌, length, slice_set, Some}
use Rattle.atomic_table.specs.Table.{Me, Step}
use Rattle.atomic_table.specs.Seated.{TableId}
use Rattle.sim_game.specs.declared.Side.{Side}
use Rattle.sim_game.specs.declared.Side.TheVariants.{One, Two}
use Rattle.sim_game.specs.declared.TheConstants.{MOST_ROWS}
use Rattle.sim_game.specs.Model.{GameModel}
use Rattle.bounds_board.specs.Views.{IsInnerKey}
use Rattle.shared_board.specs.Words.{key_word, bound_word, IsLooser, tighter, row_after, IsProved}
use Rattle.shared_board.specs.Rule.{Has, seen, with_seen, seen_at, IsWordInRange}
use Rattle.shared_board.specs.declared.view.View.{View}

-- row by row the tighter of two bounds
abbrev pub tightest : Side → List ℕ → List ℕ → List ℕ
tightest side [] ys = ys
tightest side (x ∷ xs) [] = x ∷ xs
tightest side (x ∷ xs) (y ∷ ys) = tighter side x y ∷ tightest side xs ys

-- no key has two rows, and no row two keys
pub record IsApart (ks : List (ℕ × ℕ)) : Type 0 where
  pub one_row : (i j k : ℕ) → Has (i, k) ks → Has (j, k) ks → i ≡ j
  pub one_key : (i k l : ℕ) → Has (i, k) ks → Has (i, l) ks → k ≡ l

-- each is the key of a reachable state that is no end
abbrev pub AllNamed : {S : Type 0} → GameModel S → List (ℕ × ℕ) → Type 0
AllNamed m ks = (i k : ℕ) → Has (i, k) ks → IsInnerKey m k

module _ {G : Type 0} where
  abbrev pub more_keys : List (ℕ × ℕ) → View G → View G
  more_keys ks v = record v { keys = ks ++ v.keys }

  abbrev pub knowing : View G → ℕ → ℕ → View G
  knowing v i k = record v { keys = (i, k) ∷ v.keys }

  -- after a load of the bound n of row i
  abbrev pub reading : Side → View G → ℕ → ℕ → View G
  reading side v i n = with_seen side (slice_set (seen side v) i n) (record v { loads = v.loads + 1 })

  -- after the bound x met the bound n in row i
  abbrev pub posting : Side → View G → ℕ → ℕ → ℕ → View G
  posting side v i x n = with_seen side (slice_set (seen side v) i (tighter side n x))
      (record v { posted = (i, side, x) ∷ v.posted })

  abbrev pub issuing : View G → View G
  issuing v = record v { issued = v.issued + 1 }

  abbrev pub issued_view : View G → View G
  issued_view v = record {
    game = v.game;
    lead = false;
    issued = 0;
    tickets = v.issued ∷ [];
    keys = v.keys;
    lower =
        v.lower;
    upper = v.upper;
    posted = [];
    loads = 0;
  }

  abbrev pub joined : View G → View G → View G
  joined v w = record {
    game = v.game;
    lead = v.lead || w.lead;
    issued = max v.issued w.issued;
    tickets = v.tickets ++ w.tickets;
    keys = v.keys ++ w.keys;
    lower = tightest One v.lower w.lower;
    upper = tightest Two v.upper w.upper;
    posted = v.posted ++ w.posted;
    loads = v.loads + w.loads;
  }

module _ {S G : Type 0} (model : G → GameModel S) where
  abbrev Sat : Type 0
  Sat = Me (Unit {0}) (View G)

  abbrev At : Type 0
  At = Step (Unit {0})

  -- The view v became w, which knows the key of row i: the word n was 0, and the row has now the key k, or n told
  -- another key
  pub record IsLearnt (v w : View G) (i k n : ℕ) : Type 0 where
    pub key : ℕ
    pub known : w ≡ knowing v i key
    pub named : (g : G) → v.game ≡ Some g → IsInnerKey (model g) key
    pub is_new : n ≡ 0 → key ≡ k
    pub is_old : n ≢ 0 → n ≡ suc key

  -- the view v became w, which knows at most so many keys more: those of inner states and in rows of the board, where all
  -- before were, and none twice
  pub record HasMoreKeys (rows : ℕ) (v w : View G) : Type 0 where
    pub more : (ks : List (ℕ × ℕ)) × (w ≡ more_keys ks v) × (length ks ≤ rows)
    pub named : (g : G) → v.game ≡ Some g → AllNamed (model g) v.keys → AllNamed (model g) w.keys
    pub inside : ((i k : ℕ) → Has (i, k) v.keys → i < rows) → (i k : ℕ) → Has (i, k) w.keys → i < rows
    pub apart : IsApart w.keys

  -- the row has the key that was asked for, or another one, and the view knows it
  abbrev pub claimed : At → Sat → ℕ → Sat → Type 0
  claimed st a n b = (b.1 ≡ a.1) × IsApart b.0.keys
      × ((i k : ℕ) → st.word ≡ key_word i → st.second ≡ suc k → IsLearnt a.0 b.0 i k n)

  -- the row's key was loaded: the view knows it, and nothing more where the row is free
  abbrev pub looked : At → Sat → ℕ → Sat → Type 0
  looked st a n b = (b.1 ≡ a.1) × IsApart b.0.keys
      × ((i : ℕ) → st.word ≡ key_word i → (n ≡ 0 → b.0 ≡ a.0) × (n ≢ 0 → (k : ℕ) → IsLearnt a.0 b.0 i k n))

  -- what a bound is that a step found or left
  pub record IsBound (side : Side) (v : View G) (i x : ℕ) (g : G) : Type 0 where
    pub no_looser : IsLooser side (seen_at (model g) side v i) x
    pub in_range : IsWordInRange (model g) x
    pub proved : (k : ℕ) → Has (i, k) v.keys → IsProved (model g) side k x

  -- the bound found is one of the board
  abbrev pub loaded : Side → At → Sat → ℕ → Sat → Type 0
  loaded side st a n b = (b.1 ≡ a.1) × IsApart b.0.keys
      × ((i : ℕ) → st.word ≡ bound_word side i → (b.0 ≡ reading side a.0 i n)
      × ((g : G) → a.0.game ≡ Some g → IsBound side a.0 i n g))

  -- the bound was posted, and met one of the board
  abbrev pub met : Side → At → Sat → ℕ → Sat → Type 0
  met side st a n b = (b.1 ≡ a.1) × IsApart b.0.keys
      × ((i : ℕ) → st.word ≡ bound_word side i → (b.0 ≡ posting side a.0 i st.first n)
      × ((g : G) → a.0.game ≡ Some g → IsBound side a.0 i n g))

-- a claim may try row i for the key, after t other rows: the view knows another key in each of those
pub record MayClaim {S G : Type 0} (m : GameModel S) (rows : ℕ) (v : View G) (i k t : ℕ) : Type 0 where
  pub holder : v.tickets ≢ []
  pub named : IsInnerKey m k
  pub inside : t < rows
  pub here : row_after rows k t ≡ i
  pub passed : (u : ℕ) → u < t → (k' : ℕ) × Has (row_after rows k u, k') v.keys × (k' ≢ k)

-- the board has so many rows
abbrev pub IsSized : TableId → ℕ → ℕ → Type 0
IsSized z rows n = (rows ≡ n) × (z.words ≡ 3 * n + 1) × (1 ≤ n) × (n ≤ MOST_ROWS)

-- the seat is at this table, holds a ticket and no slot
abbrev pub IsAt : {G : Type 0} → TableId → TableId → Me (Unit {0}) (View G) → Type 0
IsAt z seat me = (seat ≡ z) × (me.0.tickets ≢ []) × (me.1 ≡ [])

-- a view may post the bound x of the side in row i
pub record MayPost {S G : Type 0} (m : GameModel S) (rows : ℕ) (side : Side) (v : View G) (i x : ℕ) : Type 0 where
  pub holder : v.tickets ≢ []
  pub inside : i < rows
  pub key : ℕ
  pub known : Has (i, key) v.keys
  pub in_range : IsWordInRange m x
  pub proved : IsProved m side key x
