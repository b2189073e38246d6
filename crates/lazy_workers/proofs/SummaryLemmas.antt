-- What the sheets of the best entries say.
use Rattle.std.proofs.Common.{◌≡◌, ℕ, suc, ◌<◌, ◌≤◌, ℤ, pos, neg_ℤ, ◌≤ℤ◌, Bool, true, false, eqb, ◌||◌, Option, Some, List, [], ◌∷◌, length, map, All, refl, sym, ap, subst, ◌∙◌, arith}
use Rattle.std.specs.List.{IsDistinct, AllByRecursion, list_any}
use Rattle.std.specs.List.Sorted.{IsStrictlyIncreasing}
use Rattle.std.proofs.lemmas.List.Kept.{AllPairs-from_increasing}
use Rattle.std.proofs.lemmas.Map.Made.{IsDistinct-from_AllPairs}
use Rattle.std.proofs.lemmas.Bool.Decides.{Decides-eqb}
use Rattle.std.proofs.lemmas.Map.Steps.{length-le_from_distinct_below}
use Rattle.std.proofs.lemmas.List.Elements.{recursion_from_All, All-map, All-weaker}
use Rattle.std.proofs.lemmas.List.{length-map}
use Rattle.std.proofs.lemmas.Int.{ints}
use Rattle.std.specs.Int.RustNames.{unsigned_abs}
use Rattle.std.proofs.lemmas.Bool.{eqb-true, eqb-false}
use Rattle.sim_game.specs.declared.Side.TheVariants.{One, Two}
use Rattle.sim_game.specs.Model.{GameModel, IsGame}
use Rattle.sim_game.specs.Sides.{opening_bound}
use Rattle.plan_book.specs.declared.Entry.{Entry}
use Rattle.plan_book.specs.declared.Sheet.{Sheet}
use Rattle.plan_book.specs.declared.SheetRow.{SheetRow}
use Rattle.plan_book.specs.Books.{IsClosed, IsBooked, IsBestSheet, best_row, book_bound}
use Rattle.plan_book.specs.Sheets.{IsReached, bound_or, root_bound}
use Rattle.plan_book.proofs.BestLemmas.{book_row, reached_root, row_entry}
use Rattle.plan_book.proofs.ExpectedLemmas.{is_other}
use Rattle.sim_game.proofs.ReachLemmas.{reachable_root}
use Rattle.lazy_workers.specs.Searched.{HasKeysIn}

-- ---- rows of distinct keys that are kept in so many places are no more
module _ (most : ℕ) (key_at : ℕ → Option ℕ) where
  abbrev IsKept : ℕ → Type 0
  IsKept key = (place : ℕ) × (place < most) × (key_at place ≡ Some key)

  abbrev places : (keys : List ℕ) → AllByRecursion IsKept keys → List ℕ
  places [] kept = []
  places (key ∷ keys) kept = kept.0.0 ∷ places keys kept.1

  places_count : (keys : List ℕ) (kept : AllByRecursion IsKept keys) → length (places keys kept) ≡ length keys
  places_count [] kept = refl
  places_count (key ∷ keys) kept = ap suc (places_count keys kept.1)

  places_below : (keys : List ℕ) (kept : AllByRecursion IsKept keys) (place : ℕ) → list_any (eqb place) (places keys kept) ≡ true → place < most
  places_below [] kept place e = let wrong : false ≡ true = e in absurd (cc)
  places_below (key ∷ keys) kept place e = first (eqb place kept.0.0) refl (λ h. places_below keys kept.1 place h) e where
    first : (b : Bool) → eqb place kept.0.0 ≡ b → (list_any (eqb place) (places keys kept.1) ≡ true → place < most) → (b || list_any (eqb place) (places keys kept.1)) ≡ true → place < most
    first true is rest h = subst (λ (p : ℕ). p < most) (sym (eqb-true place kept.0.0 is)) kept.0.1
    first false is rest h = rest h

  others : (key place : ℕ) → key_at place ≡ Some key → (keys : List ℕ) (kept : AllByRecursion IsKept keys) → AllByRecursion (λ k. eqb key k ≡ false) keys
      → AllByRecursion (λ p. eqb place p ≡ false) (places keys kept)
  others key place is [] kept apart = tt
  others key place is (k ∷ keys) kept apart = (
    is_other place kept.0.0
        (λ e. let found : key_at place ≡ Some k = ap key_at e ∙ kept.0.2 in let both : key ≡ k = cc in eqb-false key k apart.0 both),
    others key place is keys kept.1 apart.1,
  )

  places_apart : (keys : List ℕ) (kept : AllByRecursion IsKept keys) → IsDistinct eqb keys → IsDistinct eqb (places keys kept)
  unfolding IsDistinct
  places_apart [] kept apart = tt
  places_apart (key ∷ keys) kept apart = (others key kept.0.0 kept.0.2 keys kept.1 apart.0, places_apart keys kept.1 apart.1)

  pub kept_few : (keys : List ℕ) → All IsKept keys → IsStrictlyIncreasing keys → length keys ≤ most
  kept_few keys all rising =
      let kept = recursion_from_All IsKept keys all in
      let rises = AllPairs-from_increasing keys rising in
      let apart : IsDistinct eqb keys = IsDistinct-from_AllPairs Decides-eqb keys (λ i j d l h e. let below = rises i j d l h in absurd (omega arith)) in
      subst (λ (n : ℕ). n ≤ most) (places_count keys kept)
      (length-le_from_distinct_below (places keys kept) most (places_apart keys kept apart) (places_below keys kept))

module _ {S : Type 0} (m : GameModel S) (game : IsGame m) (total : ℕ) (entries : List Entry) (closed : IsClosed m total entries) (sheet : Sheet)
    (best : IsBestSheet m sheet.side entries sheet.rows) where
  -- the bound at the root is the book's
  pub root_is : root_bound m sheet ≡ book_bound m entries sheet.side m.root
  root_is = ap (bound_or m sheet.side m.root) (best.kept m.root (reached_root m sheet.side _)) ∙ sym (book_row m game total (IsBooked m entries) entries closed sheet.side m.root (reachable_root m))

  -- there are no more rows than the board has
  pub rows_few : (rows : ℕ) → HasKeysIn rows entries → length sheet.rows ≤ rows
  rows_few rows held = subst (λ (n : ℕ). n ≤ rows) (length-map sheet.rows (λ (r : SheetRow). r.key))
      (kept_few rows held.key_at (map (λ r. r.key) sheet.rows)
      (All-map (IsKept rows held.key_at) (λ r. r.key) sheet.rows (All-weaker _ (λ r. IsKept rows held.key_at r.key) kept sheet.rows best.only)) best.rising) where
        kept : (r : SheetRow) → (s : S) × IsReached m sheet.side (best_row sheet.side entries) s × (m.key s ≡ r.key) × (best_row sheet.side entries r.key ≡ Some r) → IsKept rows held.key_at r.key
        kept r only =
            let behind = row_entry (λ e. IsKept rows held.key_at e.key) sheet.side entries r.key r held.held only.3 in
            subst (IsKept rows held.key_at) behind.1.is_key behind.1.holds

-- ---- the range of a bound
pub abs_small : (z : ℤ) → neg_ℤ (pos 4000000000) ≤ℤ z → z ≤ℤ pos 4000000000 → unsigned_abs z ≤ 4000000000
abs_small z low high = omega (arith, ints)

module _ {S : Type 0} (m : GameModel S) (game : IsGame m) where
  pub scaled_low : (z : ℤ) → opening_bound m One ≤ℤ z → neg_ℤ (pos 4000000000) ≤ℤ z
  scaled_low z low = let least = game.low_least in omega (arith, ints)

  pub scaled_high : (z : ℤ) → z ≤ℤ opening_bound m Two → z ≤ℤ pos 4000000000
  scaled_high z high = let most = game.high_most in omega (arith, ints)
