-- Rows by key, where keys rise strictly.
use Rattle.std.proofs.Common.{◌≡◌, ℕ, zero, suc, ◌+◌, ◌<◌, ◌≤◌, None, List, [], ◌∷◌, map, length, slice_get, get_or, inl, inr, refl, ap, ◌∙◌, arith, add-one}
use Rattle.std.proofs.lemmas.Bool.{cases_lt}
use Rattle.std.specs.List.Sorted.{IsStrictlyIncreasing}
use Rattle.plan_book.specs.declared.SheetRow.{SheetRow}
use Rattle.plan_book.specs.Sheets.{row_at}
use Rattle.plan_book.proofs.ExpectedLemmas.{is_same, is_other}

abbrev pub row_keys : List SheetRow → List ℕ
row_keys rows = map (λ r. r.key) rows

-- all keys before a place are below the key
abbrev pub AreBelow : List SheetRow → ℕ → ℕ → Type 0
AreBelow rows key low = (k : ℕ) → k < low → get_or (row_keys rows) k 0 < key

-- all keys from a place on are above the key
abbrev pub AreAbove : List SheetRow → ℕ → ℕ → Type 0
AreAbove rows key high = (k : ℕ) → high ≤ k → k < length rows → key < get_or (row_keys rows) k 0

pub keys_length : (rows : List SheetRow) → length (row_keys rows) ≡ length rows
keys_length [] = refl
keys_length (r ∷ rows) = ap suc (keys_length rows)

pub key_of : (rows : List SheetRow) (k : ℕ) (d : SheetRow) → k < length rows → get_or (row_keys rows) k 0 ≡ (get_or rows k d).key
key_of [] k d h = absurd (omega arith)
key_of (r ∷ rows) zero d h = refl
key_of (r ∷ rows) (suc k) d h = key_of rows k d (omega arith)

-- a number is below a later one
pub rises : (xs : List ℕ) → IsStrictlyIncreasing xs → (i j : ℕ) → i < j → j < length xs → get_or xs i 0 < get_or xs j 0
rises xs up i zero h p = absurd (omega arith)
rises xs up i (suc j) h p =
    let step : get_or xs j 0 < get_or xs (suc j) 0 = rw add-one at (up j (omega arith)) in
    elim (cases_lt i j) [
      | inl earlier ↦ let before = rises xs up i j earlier (omega arith) in omega (arith, before, step)
      | inr last ↦ let same : i ≡ j = omega arith in rw same step
    ]

module _ (rows : List SheetRow) (rising : IsStrictlyIncreasing (row_keys rows)) where
  key_rises : (i j : ℕ) → i < j → j < length rows → get_or (row_keys rows) i 0 < get_or (row_keys rows) j 0
  key_rises i j h p = rises (row_keys rows) rising i j h (rw (keys_length rows) p)

  pub below_more : (key middle : ℕ) → middle < length rows → get_or (row_keys rows) middle 0 < key → AreBelow rows key (middle + 1)
  below_more key middle p h = λ k u. elim (cases_lt k middle) [
    | inl earlier ↦ let before = key_rises k middle earlier p in omega (arith, before, h)
    | inr last ↦ let same : k ≡ middle = omega arith in rw same h
  ]

  pub above_more : (key middle : ℕ) → key < get_or (row_keys rows) middle 0 → AreAbove rows key middle
  above_more key middle h = λ k u p. elim (cases_lt middle k) [
    | inl later ↦ let after = key_rises middle k later p in omega (arith, after, h)
    | inr same ↦ let it : k ≡ middle = omega arith in rw it h
  ]

no_row : (rows : List SheetRow) (key : ℕ) → ((k : ℕ) → k < length rows → ¬ (get_or (row_keys rows) k 0 ≡ key)) → row_at rows key ≡ None
no_row [] key h = refl
no_row (r ∷ rows) key h = rw (is_other r.key key (h 0 (omega arith))) (no_row rows key (λ k p. h (suc k) (omega arith)))

pub none_between : (rows : List SheetRow) (key low high : ℕ) → AreBelow rows key low → AreAbove rows key high → high ≤ low → row_at rows key ≡ None
none_between rows key low high below above meet = no_row rows key (λ k p e. elim (cases_lt k low) [
  | inl before ↦ let b = below k before in omega (arith, b, e)
  | inr after ↦ let a = above k (omega arith) p in omega (arith, a, e)
])

row_first : (rows : List SheetRow) (key i : ℕ) → i < length rows → ((k : ℕ) → k < i → ¬ (get_or (row_keys rows) k 0 ≡ key)) → get_or (row_keys rows) i 0 ≡ key → row_at rows key ≡ slice_get rows i
row_first [] key i p h e = absurd (omega arith)
row_first (r ∷ rows) key zero p h e = rw (is_same r.key key e) refl
row_first (r ∷ rows) key (suc i) p h e = rw (is_other r.key key (h 0 (omega arith))) (row_first rows key i (omega arith) (λ k q. h (suc k) (omega arith)) e)

-- the row at a place is the row of its key
pub row_found : (rows : List SheetRow) → IsStrictlyIncreasing (row_keys rows) → (key i : ℕ) → i < length rows → get_or (row_keys rows) i 0 ≡ key → row_at rows key ≡ slice_get rows i
row_found rows rising key i p e = row_first rows key i p (λ k q same. let r = key_rises rows rising k i q p in omega (arith, r, same, e)) e

-- the row of the key, if there is one, is from a place on and before another
pub record Narrows (rows : List SheetRow) (key low high : ℕ) : Type 0 where
  pub order : low ≤ high
  pub within : high ≤ length rows
  pub below : AreBelow rows key low
  pub above : AreAbove rows key high

-- ---- one step of the search
module _ (rows : List SheetRow) (rising : IsStrictlyIncreasing (row_keys rows)) (key low high middle : ℕ) (item : SheetRow) where
  pub narrow_up : Narrows rows key low high → low < high → middle < high → (get_or rows middle item).key < key → Narrows rows key (middle + 1) high
  narrow_up inv some p h =
      let within = inv.within in
      let q : middle < length rows = omega (arith, within) in
      record {
        order = omega arith;
        within = inv.within;
        below = below_more rows rising key middle q (rw (key_of rows middle item q) h);
        above = inv.above;
      }

  pub narrow_down : Narrows rows key low high → low ≤ middle → middle < high → key < (get_or rows middle item).key → Narrows rows key low middle
  narrow_down inv some p h =
      let within = inv.within in
      let q : middle < length rows = omega (arith, within) in
      record {
        order = some;
        within = omega (arith, within);
        below = inv.below;
        above = above_more rows rising key middle (rw (key_of rows middle item q) h);
      }

  pub narrow_found : Narrows rows key low high → middle < high → (get_or rows middle item).key ≡ key → row_at rows key ≡ slice_get rows middle
  narrow_found inv p h =
      let within = inv.within in
      let q : middle < length rows = omega (arith, within) in
      row_found rows rising key middle q (key_of rows middle item q ∙ h)
