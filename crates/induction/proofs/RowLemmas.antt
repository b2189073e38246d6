-- Rows by key: more of them, in another order, and with bounds in place of none.
use Rattle.std.proofs.Common.{◌≡◌, ℕ, zero, suc, ◌+◌, ◌<◌, ◌≤◌, Bool, true, false, cond, eqb, Option, None, Some, List, [], ◌∷◌, ◌++◌, map, length, take, get_or, inl, inr, refl, sym, ap, subst, ◌∙◌, arith}
use Rattle.std.proofs.lemmas.Bool.{cases_eq, eqb-true}
use Rattle.std.proofs.lemmas.Cmp.{nat_eq_equiv}
use Rattle.std.proofs.lemmas.List.{take-map, take_more, get_or-take, get_or-map, map-append}
use Rattle.std.proofs.lemmas.List.Elements.{All-from_recursion, recursion_from_All}
use Rattle.std.proofs.lemmas.List.Sorted.{All-permutation, IsNonDecreasingBy-from_default, IsPermutation-map, list_any-IsPermutation}
use Rattle.std.proofs.lemmas.Map.Keys.{IsDistinct-IsPermutation, IsDistinct-head, IsDistinct-tail, IsStrictlyIncreasing-from_distinct, apart_from_distinct}
use Rattle.std.specs.List.{All, AllByRecursion, IsDistinct}
use Rattle.std.specs.List.Sorted.{IsNonDecreasing, IsNonDecreasingBy, IsPermutation, IsStrictlyIncreasing}
use Rattle.std.specs.Option.{is_some}
use Rattle.std.specs.Prelude.{IsSomeAnd, pos}
use Rattle.sim_game.specs.declared.Side.{Side}
use Rattle.sim_game.specs.Model.{GameModel, IsGame, Reachable, Turn, after_turn}
use Rattle.sim_game.specs.Numbers.{Numbering, IsNumbering}
use Rattle.sim_game.specs.Sides.{own_move}
use Rattle.plan_book.specs.declared.SheetRow.{SheetRow}
use Rattle.plan_book.specs.Sheets.{row_at, IsKeptHistory, IsReached}
use Rattle.plan_book.proofs.ExpectedLemmas.{is_same, is_other}
use Rattle.plan_book.proofs.FoundLemmas.{row_listed}
use Rattle.plan_book.proofs.LookupLemmas.{row_keys, keys_length, key_of}
use Rattle.plan_book.proofs.TakenLemmas.{row_pushed}
use Rattle.induction.specs.declared.PlannedState.{PlannedState}
use Rattle.induction.specs.Planned.{open_row, planned, weights_of_row}
use Rattle.induction.specs.Certified.{IsWithinState, IsBoundWord, ArePlaced}

-- ---- in another order
later : (x : SheetRow) (all rs : List SheetRow) → AllByRecursion (λ y. eqb x.key y ≡ false) (row_keys rs) → AllByRecursion (λ r. row_at all r.key ≡ Some r) rs
    → AllByRecursion (λ r. row_at (x ∷ all) r.key ≡ Some r) rs
later x all [] apart found = tt
later x all (r ∷ rs) apart found = (rw apart.0 found.0, later x all rs apart.1 found.1)

-- each row is that of its key
all_found : (rows : List SheetRow) → IsDistinct eqb (row_keys rows) → AllByRecursion (λ r. row_at rows r.key ≡ Some r) rows
all_found [] d = tt
all_found (x ∷ rows) d =
    (rw (is_same x.key x.key refl) refl, later x rows rows (IsDistinct-head eqb x.key (row_keys rows) d) (all_found rows (IsDistinct-tail eqb x.key (row_keys rows) d)))

row_step : (here : Bool) (r : SheetRow) (found rest : Option SheetRow) → (here ≡ true → found ≡ Some r) → rest ≡ cond (is_some rest) found None
    → cond here (Some r) rest ≡ cond (is_some (cond here (Some r) rest)) found None
row_step true r found rest h e = sym (h refl)
row_step false r found rest h e = e

row_by : (f : ℕ → Option SheetRow) (rows : List SheetRow) (key : ℕ) → AllByRecursion (λ r. f r.key ≡ Some r) rows → row_at rows key ≡ cond (is_some (row_at rows key)) (f key) None
row_by f [] key all = refl
row_by f (r ∷ rows) key all = row_step (eqb r.key key) r (f key) (row_at rows key) (λ same. ap f (sym (same_key_of r.key key same)) ∙ all.0) (row_by f rows key all.1)
  where
    same_key_of : (a b : ℕ) → eqb a b ≡ true → a ≡ b
    same_key_of a b e = elim (cases_eq a b) [ inl same ↦ same | inr other ↦ absurd (let no = is_other a b other in cc) ]

none_or : (b : Bool) (o : Option SheetRow) → (is_some o ≡ true → b ≡ true) → cond b o None ≡ o
none_or true o h = refl
none_or false None h = refl
none_or false (Some r) h = absurd (let no = h refl in cc)

pub row_moved : (xs ys : List SheetRow) → IsDistinct eqb (row_keys xs) → IsPermutation xs ys → (key : ℕ) → row_at ys key ≡ row_at xs key
row_moved xs ys distinct moved key =
    let f : ℕ → Option SheetRow = row_at xs in
    let all : All (λ r. f r.key ≡ Some r) ys = All-permutation (λ r. f r.key ≡ Some r) xs ys moved (All-from_recursion (λ r. f r.key ≡ Some r) xs (all_found xs distinct)) in
    let keys : IsPermutation (row_keys xs) (row_keys ys) = IsPermutation-map (λ r. r.key) xs ys moved in
    row_by f ys key (recursion_from_All (λ r. f r.key ≡ Some r) ys all)
    ∙ none_or (is_some (row_at ys key)) (f key) (λ some. row_listed ys key ∙ sym (list_any-IsPermutation (eqb key) _ _ keys) ∙ sym (row_listed xs key) ∙ some)

keys_rise : (rows : List SheetRow) → IsNonDecreasingBy (λ r. r.key) rows → IsNonDecreasing (row_keys rows)
keys_rise [] h = λ i j d le p. absurd (omega arith)
keys_rise (r ∷ rows) h = IsNonDecreasingBy-from_default (λ x. x) (row_keys (r ∷ rows)) 0 (λ i j le p.
    let q : j < length (r ∷ rows) = rw (← keys_length (r ∷ rows)) p in
    rw (key_of (r ∷ rows) i r (omega arith), key_of (r ∷ rows) j r q) (h i j r le q))

pub rows_rise : (xs ys : List SheetRow) → IsDistinct eqb (row_keys xs) → IsPermutation xs ys → IsNonDecreasingBy (λ r. r.key) ys → IsStrictlyIncreasing (row_keys ys)
rows_rise xs ys distinct moved rising =
    IsStrictlyIncreasing-from_distinct (row_keys ys) (keys_rise ys rising)
    (IsDistinct-IsPermutation eqb nat_eq_equiv.symm _ _ (IsPermutation-map (λ r. r.key) xs ys moved) distinct)

-- ---- weights by key
-- the row without its bound
abbrev pub opened : SheetRow → SheetRow
opened r = record { key = r.key; bound = pos 0; weights = r.weights }

opened_step : (here : Bool) (r : SheetRow) (rest others : Option SheetRow) → weights_of_row rest ≡ weights_of_row others
    → weights_of_row (cond here (Some (opened r)) rest) ≡ weights_of_row (cond here (Some r) others)
opened_step true r rest others h = refl
opened_step false r rest others h = h

pub weights_opened : (rows : List SheetRow) (key : ℕ) → weights_of_row (row_at (map opened rows) key) ≡ weights_of_row (row_at rows key)
weights_opened [] key = refl
weights_opened (r ∷ rows) key = opened_step (eqb r.key key) r _ _ (weights_opened rows key)

pub keys_opened : (rows : List SheetRow) → row_keys (map opened rows) ≡ row_keys rows
keys_opened [] = refl
keys_opened (r ∷ rows) = ap (λ (ks : List ℕ). r.key ∷ ks) (keys_opened rows)

abbrev pub state_keys : {S : Type 0} → List (PlannedState S) → List ℕ
state_keys states = map (λ p. p.key) states

pub keys_open : {S : Type 0} (states : List (PlannedState S)) → row_keys (map open_row states) ≡ state_keys states
keys_open [] = refl
keys_open (p ∷ states) = ap (λ (ks : List ℕ). p.key ∷ ks) (keys_open states)

pub planned_moved : {S : Type 0} (ps qs : List (PlannedState S)) → IsDistinct eqb (state_keys ps) → IsPermutation ps qs → (key : ℕ) → planned qs key ≡ planned ps key
planned_moved ps qs distinct moved key = row_moved (map open_row ps) (map open_row qs) (rw (keys_open ps) distinct) (IsPermutation-map open_row ps qs moved) key

-- ---- reached by the weights alone
played_by : (k : ℕ) (o p : Option SheetRow) → weights_of_row o ≡ weights_of_row p → IsSomeAnd o (λ r. 1 ≤ get_or r.weights k 0) → IsSomeAnd p (λ r. 1 ≤ get_or r.weights k 0)
played_by k None p e h = absurd h
played_by k (Some r) None e h = absurd (cc)
played_by k (Some r) (Some q) e h = let same : r.weights ≡ q.weights = cc in subst (λ (w : List ℕ). 1 ≤ get_or w k 0) same h

module _ {S : Type 0} (m : GameModel S) (side : Side) (rows others : ℕ → Option SheetRow) where
  kept_by : ((key : ℕ) → weights_of_row (rows key) ≡ weights_of_row (others key)) → (s : S) (h : List Turn) → IsKeptHistory m side rows s h → IsKeptHistory m side others s h
  kept_by same s [] kept = tt
  kept_by same s (t ∷ h) kept = (
    record { turn = kept.0.turn; played = played_by (own_move side t) _ _ (same (m.key s)) kept.0.played },
    kept_by same (after_turn m s t) h kept.1,
  )

  pub reached_by : ((key : ℕ) → weights_of_row (rows key) ≡ weights_of_row (others key)) → (s : S) → IsReached m side rows s → IsReached m side others s
  reached_by same s r = record { history = r.history; kept = kept_by same m.root r.history r.kept; leads = r.leads }

-- ---- one row more
-- two reachable states have one place where they have one key
pub same_tests : {S : Type 0} (m : GameModel S) → IsGame m → (n : Numbering S) → IsNumbering m n → (s t : S) → Reachable m s → Reachable m t
    → eqb (n.place s) (n.place t) ≡ eqb (m.key s) (m.key t)
same_tests m game n numbered s t r q = elim (cases_eq (m.key s) (m.key t)) [
  | inl e ↦ is_same (n.place s) (n.place t) (ap n.place (game.same_key s t r q e)) ∙ sym (is_same (m.key s) (m.key t) e)
  | inr ne ↦ is_other (n.place s) (n.place t) (λ e. absurd (ne (ap m.key (numbered.apart s t r q e)))) ∙ sym (is_other (m.key s) (m.key t) ne)
]

held_step : (here : Bool) (row : SheetRow) (old : Option SheetRow) (word was : ℕ) → IsBoundWord (Some row) word → IsBoundWord old was
    → IsBoundWord (cond here (Some row) old) (cond here word was)
held_step true row old word was mine others = mine
held_step false row old word was mine others = others

ranged_step : {S : Type 0} (m : GameModel S) (s : S) (here : Bool) (row r : SheetRow) (old : Option SheetRow) → (here ≡ true → IsWithinState m s row.bound)
    → (old ≡ Some r → IsWithinState m s r.bound) → cond here (Some row) old ≡ Some r → IsWithinState m s r.bound
ranged_step m s true row r old mine others e = let it : row ≡ r = cc in subst (λ (x : SheetRow). IsWithinState m s x.bound) it (mine refl)
ranged_step m s false row r old mine others e = others e

-- the row of a reachable state
pub placed_more : {S : Type 0} (m : GameModel S) → IsGame m → (n : Numbering S) → IsNumbering m n → (rows : List SheetRow) (row : SheetRow) (s : S) (words now : ℕ → ℕ) (word : ℕ)
    → ArePlaced m n.place rows words → Reachable m s → m.key s ≡ row.key → IsWithinState m s row.bound → is_some (row_at rows row.key) ≡ false
    → IsBoundWord (Some row) word → ((q : ℕ) → now q ≡ cond (eqb (n.place s) q) word (words q)) → ArePlaced m n.place (rows ++ row ∷ []) now
placed_more {S = S} m game n numbered rows row s words now word old reach is_key ranged none is put = record {
  held = λ t r.
      let here : Bool = eqb (n.place s) (n.place t) in
      let test : eqb row.key (m.key t) ≡ here = ap (λ (k : ℕ). eqb k (m.key t)) (sym is_key) ∙ sym (same_tests m game n numbered s t reach r) in
      let at : row_at (rows ++ row ∷ []) (m.key t) ≡ cond here (Some row) (row_at rows (m.key t)) =
      row_pushed rows row row.key (m.key t) refl none ∙ ap (λ (b : Bool). cond b (Some row) (row_at rows (m.key t))) test in
      subst (λ (o : Option SheetRow). IsBoundWord o (now (n.place t))) (sym at)
      (subst (IsBoundWord (cond here (Some row) (row_at rows (m.key t)))) (sym (put (n.place t)))
      (held_step here row (row_at rows (m.key t)) word (words (n.place t)) is (old.held t r)));
  ranged = λ t r at e. ranged_step m t (eqb row.key (m.key t)) row r (row_at rows (m.key t))
      (λ same. let here : s ≡ t = game.same_key s t reach at (is_key ∙ eqb-true row.key (m.key t) same) in subst (λ (x : S). IsWithinState m x row.bound) here ranged)
      (λ o. old.ranged t r at o) (sym (row_pushed rows row row.key (m.key t) refl none) ∙ e);
}

-- ---- no row yet
pub no_row : (rows : List SheetRow) (key : ℕ) → ((k : ℕ) → k < length rows → eqb (get_or (row_keys rows) k 0) key ≡ false) → is_some (row_at rows key) ≡ false
no_row [] key h = refl
no_row (r ∷ rows) key h = rw (h 0 (omega arith)) (no_row rows key (λ k p. h (suc k) (omega arith)))

state_keys_length : {S : Type 0} (xs : List (PlannedState S)) → length (state_keys xs) ≡ length xs
state_keys_length [] = refl
state_keys_length (x ∷ xs) = ap suc (state_keys_length xs)

take_short : (n : ℕ) (ks : List ℕ) → length (take n ks) ≤ n
take_short zero ks = omega arith
take_short (suc n) [] = omega arith
take_short (suc n) (k ∷ ks) = let rest = take_short n ks in omega (arith, rest)

-- of different states the next one has no row where the rows are of those before it
pub next_is_new : {S : Type 0} (states : List (PlannedState S)) (i : ℕ) (p : PlannedState S) (rows : List SheetRow) → IsDistinct eqb (state_keys states) → i < length states
    → p ≡ get_or states i p → map opened rows ≡ map open_row (take i states) → is_some (row_at rows p.key) ≡ false
next_is_new states i p rows distinct h is filled =
    let keys : row_keys rows ≡ take i (state_keys states) =
    sym (keys_opened rows) ∙ ap row_keys filled ∙ keys_open (take i states) ∙ sym (take-map (λ q. q.key) i states) in
    let long : length (state_keys states) ≡ length states = state_keys_length states in
    let short = take_short i (state_keys states) in
    let count : length rows ≡ length (take i (state_keys states)) = sym (keys_length rows) ∙ ap length keys in
    no_row rows p.key (λ k l.
    let before : k < i = omega (arith, l, count, short) in
    let here : get_or (row_keys rows) k 0 ≡ get_or (state_keys states) k 0 = ap (λ (ks : List ℕ). get_or ks k 0) keys ∙ get_or-take i (state_keys states) k 0 before in
    let there : get_or (state_keys states) i 0 ≡ p.key = get_or-map (λ q. q.key) states i p 0 h ∙ ap (λ q. q.key) (sym is) in
    rw (here, ← there) (apart_from_distinct eqb (state_keys states) k i 0 distinct before (rw long h)))

pub filled_more : {S : Type 0} (states : List (PlannedState S)) (i : ℕ) (p : PlannedState S) (rows : List SheetRow) (row : SheetRow) → i < length states
    → p ≡ get_or states i p → row.key ≡ p.key → row.weights ≡ p.weights → map opened rows ≡ map open_row (take i states)
    → map opened (rows ++ row ∷ []) ≡ map open_row (take (i + 1) states)
filled_more states i p rows row h is key weights filled =
    let same : opened row ≡ open_row p = λ j. record { key = key j; bound = pos 0; weights = weights j } in
    map-append opened rows (row ∷ [])
    ∙ ap (λ (xs : List SheetRow). xs ++ opened row ∷ []) filled
    ∙ ap (λ (x : SheetRow). map open_row (take i states) ++ x ∷ []) (same ∙ ap open_row is)
    ∙ sym (map-append open_row (take i states) (get_or states i p ∷ []))
    ∙ ap (map open_row) (sym (take_more states i p h))
