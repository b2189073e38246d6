-- The rows of the best entries at the states that they reach are the best sheet.
use Rattle.std.proofs.Common.{◌≡◌, ℕ, ◌<◌, length, Bool, true, false, cond, ◌||◌, eqb, Option, None, Some, List, [], ◌∷◌, map, nat_cmp, inl, inr, refl, sym, ap, subst, ◌∙◌, arith}
use Rattle.std.proofs.lemmas.Bool.{eqb-true}
use Rattle.std.proofs.lemmas.Bool.Decides.{nat_tests}
use Rattle.std.proofs.lemmas.Cmp.{nat_eq_equiv}
use Rattle.std.proofs.lemmas.List.Elements.{All-weaker, recursion_from_All}
use Rattle.std.proofs.lemmas.List.Sorted.{All-permutation, IsNonDecreasingBy-from_default, IsPermutation-map, list_any-IsPermutation}
use Rattle.std.proofs.lemmas.Map.Keys.{IsDistinct-IsPermutation, IsStrictlyIncreasing-from_distinct}
use Rattle.std.specs.List.{All, AllByRecursion, list_any}
use Rattle.std.specs.List.Sorted.{IsNonDecreasing, IsNonDecreasingBy, IsPermutation}
use Rattle.std.specs.Map.{lookup}
use Rattle.std.specs.Option.{IsSome, is_some}
use Rattle.std.specs.Ordering.{is_eq}
use Rattle.std.specs.Prelude.{IsSomeAnd}
use Rattle.sim_game.specs.declared.Side.{Side}
use Rattle.sim_game.specs.Model.{GameModel, Turn, after_turn, after_history}
use Rattle.plan_book.specs.declared.Entry.{Entry}
use Rattle.plan_book.specs.declared.SheetRow.{SheetRow}
use Rattle.plan_book.specs.Books.{IsBestSheet, best_row}
use Rattle.plan_book.specs.Gathered.{AreTaken, IsFoundRow, IsGathered}
use Rattle.plan_book.specs.Sheets.{row_at, IsKeptHistory, IsReached}
use Rattle.plan_book.proofs.LookupLemmas.{row_keys, keys_length, key_of}
use Rattle.plan_book.proofs.BestLemmas.{reached_root, reached_turn}

same_key_is : (x y : ℕ) → is_eq (nat_cmp x y) ≡ eqb x y
same_key_is x y = grind (arith, nat_tests)

-- ---- the keys of a map
key_step : {X : Type 0} (here : Bool) (x : X) (rest : Option X) (others : Bool) → is_some rest ≡ others → is_some (cond here (Some x) rest) ≡ (here || others)
key_step true x rest others h = refl
key_step false x rest others h = h

pub key_listed : {X : Type 0} (es : List (ℕ × X)) (key : ℕ) → is_some (lookup (λ k. is_eq (nat_cmp key k)) es) ≡ list_any (eqb key) (map (λ e. e.0) es)
key_listed [] key = refl
key_listed (e ∷ es) key = key_step (is_eq (nat_cmp key e.0)) e.1 _ _ (key_listed es key) ∙ ap (λ (b : Bool). b || list_any (eqb key) (map (λ x. x.0) es)) (same_key_is key e.0)

-- ---- rows by key
pub row_listed : (rows : List SheetRow) (key : ℕ) → is_some (row_at rows key) ≡ list_any (eqb key) (row_keys rows)
row_listed [] key = refl
row_listed (r ∷ rows) key = key_step (eqb r.key key) r _ _ (row_listed rows key) ∙ ap (λ (b : Bool). b || list_any (eqb key) (row_keys rows)) (nat_eq_equiv.symm r.key key)

row_step : (here : Bool) (r : SheetRow) (found rest : Option SheetRow) → (here ≡ true → found ≡ Some r) → rest ≡ cond (is_some rest) found None
    → cond here (Some r) rest ≡ cond (is_some (cond here (Some r) rest)) found None
row_step true r found rest h e = sym (h refl)
row_step false r found rest h e = e

-- a row of the key, if there is one, is what f has there
row_from : (f : ℕ → Option SheetRow) (rows : List SheetRow) (key : ℕ) → AllByRecursion (λ r. f r.key ≡ Some r) rows → row_at rows key ≡ cond (is_some (row_at rows key)) (f key) None
row_from f [] key all = refl
row_from f (r ∷ rows) key all = row_step (eqb r.key key) r (f key) (row_at rows key) (λ same. ap f (sym (eqb-true r.key key same)) ∙ all.0) (row_from f rows key all.1)

keys_rise : (rows : List SheetRow) → IsNonDecreasingBy (λ r. r.key) rows → IsNonDecreasing (row_keys rows)
keys_rise [] h = λ i j d le p. absurd (omega arith)
keys_rise (r ∷ rows) h = IsNonDecreasingBy-from_default (λ x. x) (row_keys (r ∷ rows)) 0 (λ i j le p.
    let q : j < length (r ∷ rows) = rw (← keys_length (r ∷ rows)) p in
    rw (key_of (r ∷ rows) i r (omega arith), key_of (r ∷ rows) j r q) (h i j r le q))

-- ---- reached states are found
some_from : {X : Type 0} (o : Option X) → IsSome o → (x : X) × (o ≡ Some x)
some_from None h = absurd (cc)
some_from (Some x) h = (x, refl)

some_and : (o : Option SheetRow) (P : SheetRow → Type 0) → IsSomeAnd o P → IsSome o
some_and None P h = absurd h
some_and (Some r) P h = refl

module _ {S : Type 0} (m : GameModel S) (side : Side) (rows after : ℕ → Option SheetRow) (walk : IsGathered m side rows m.root (row_at []) after) where
  found_along : (s : S) (h : List Turn) → IsReached m side rows s → (IsSome (rows (m.key s)) → IsSome (after (m.key s))) → IsKeptHistory m side rows s h
      → IsSome (rows (m.key (after_history m s h))) → IsSome (after (m.key (after_history m s h)))
  found_along s [] r here kept row = here row
  found_along s (t ∷ h) r here kept row =
      let next = reached_turn m side rows s t r kept.0 in
      let found = here (some_and (rows (m.key s)) _ kept.0.played) in
      elim (walk.closed s r found) [
        | inl old ↦ absurd (cc)
        | inr followed ↦ found_along (after_turn m s t) h next (followed t kept.0) kept.1 row
      ]

  pub reached_found : (s : S) → IsReached m side rows s → IsSome (rows (m.key s)) → IsSome (after (m.key s))
  reached_found s r row =
      subst (λ (x : S). IsSome (after (m.key x))) r.leads
      (found_along m.root r.history (reached_root m side rows) walk.here r.kept (subst (λ (x : S). IsSome (rows (m.key x))) (sym r.leads) row))

none_or : (b : Bool) (o : Option SheetRow) → (is_some o ≡ true → b ≡ true) → cond b o None ≡ o
none_or true o h = refl
none_or false None h = refl
none_or false (Some r) h = absurd (let no = h refl in cc)

pub nothing_in : {X : Type 0} (es : List (ℕ × X)) (key : ℕ) → es ≡ [] → lookup (λ k. is_eq (nat_cmp key k)) es ≡ None
nothing_in es key e = ap (lookup (λ k. is_eq (nat_cmp key k))) e

-- the rows that a walk from the root found, in rising order of keys
pub found_sheet : {S : Type 0} (m : GameModel S) (side : Side) (entries : List Entry) (left : ℕ → Option ℕ) (found sheet_rows : List SheetRow) → AreTaken m side entries left found
    → IsGathered m side (best_row side entries) m.root (row_at []) (row_at found) → IsPermutation found sheet_rows → IsNonDecreasingBy (λ r. r.key) sheet_rows → IsBestSheet m side entries sheet_rows
found_sheet m side entries left found sheet_rows taken walk moved rising =
    let f : ℕ → Option SheetRow = best_row side entries in
    let each : All (IsFoundRow m side entries) sheet_rows = All-permutation (IsFoundRow m side entries) found sheet_rows moved taken.each in
    let keys : IsPermutation (row_keys found) (row_keys sheet_rows) = IsPermutation-map (λ r. r.key) found sheet_rows moved in
    record {
      rising = IsStrictlyIncreasing-from_distinct (row_keys sheet_rows) (keys_rise sheet_rows rising) (IsDistinct-IsPermutation eqb nat_eq_equiv.symm _ _ keys taken.distinct);
      kept = λ s r.
          row_from f sheet_rows (m.key s) (recursion_from_All (λ x. f x.key ≡ Some x) sheet_rows (All-weaker (IsFoundRow m side entries) (λ x. f x.key ≡ Some x) (λ x h. h.3) sheet_rows each))
          ∙ none_or (is_some (row_at sheet_rows (m.key s))) (f (m.key s)) (λ some.
          row_listed sheet_rows (m.key s) ∙ sym (list_any-IsPermutation (eqb (m.key s)) _ _ keys) ∙ sym (row_listed found (m.key s)) ∙ reached_found m side f (row_at found) walk s r some);
      only = each;
    }
