-- The table of a plain board: heads, and the keys of the rows that they name.
use Rattle.std.proofs.Common.{◌≡◌, ◌≢◌, ◌⊎◌, inl, inr, ℕ, ◌+◌, ◌-◌, ◌%◌, ◌<◌, ◌≤◌, min, Some, List, [], ◌∷◌, ◌++◌, zero, suc, length, get_or, set, All, nat_eq, slice_get, slice_index, option_map, refl, sym, ap, ◌∙◌, subst, arith, mod-lt}
use Rattle.std.proofs.lemmas.Bool.{cases_lt}
use Rattle.std.proofs.lemmas.List.{get_or_default, get_or-set_same, get_or-set_other, length-set, length-map, length_push}
use Rattle.std.proofs.lemmas.List.Elements.{All-head, All-tail, All-set, All-weaker}
use Rattle.std.proofs.lemmas.List.Sums.{sum_by-cons, sum_by-set, sum_by-le}
use Rattle.std.proofs.lemmas.Option.{slice_get-map, slice_get-get_or, slice_get_within}
use Rattle.std.proofs.lemmas.Map.Keys.{IsDistinct-from_apart}
use Rattle.std.specs.List.{IsDistinct}
use Rattle.plan_book.proofs.BookLemmas.{eqb_other}
use Rattle.bounds_board.specs.declared.slots.Slot.{Slot}
use Rattle.bounds_board.specs.Slots.{home, head_after, keys_of, taken, IsOther, IsFree, IsProbed, IsHashTable}

-- ---- how many heads are not free
taken_all : (heads : List ℕ) → All (λ named. 1 ≤ named) heads → length heads ≤ taken heads
taken_all [] all = omega arith
taken_all (x ∷ xs) all = omega (arith, sum_by-cons (λ named. min named 1) x xs, taken_all xs (All-tail (λ named. 1 ≤ named) x xs all), All-head (λ named. 1 ≤ named) x xs all)

taken_most : (heads : List ℕ) → taken heads ≤ length heads
taken_most heads = omega (arith, sum_by-le (λ named. min named 1) 1 heads (λ k d l. omega arith))

taken_more : (heads : List ℕ) (head row : ℕ) → head < length heads → slice_index heads head ≡ 0 → taken (set heads head (row + 1)) ≡ taken heads + 1
taken_more heads head row l free = omega (arith, sum_by-set (λ named. min named 1) heads head (row + 1) 0 l, ap (λ named. min named 1) free)

pub few_keys : (heads keys : List ℕ) → IsHashTable heads keys → length keys ≤ length heads
few_keys heads keys table = omega (arith, table.one_each, taken_most heads)

pub distinct_keys : (heads keys : List ℕ) → IsHashTable heads keys → IsDistinct nat_eq keys
distinct_keys heads keys table = IsDistinct-from_apart nat_eq keys
    (λ i j d l h. eqb_other (get_or keys i d) (get_or keys j d)
    (λ e. let same = table.apart i j (get_or keys i d) (slice_get-get_or keys i d (omega arith)) (slice_get-get_or keys j d h ∙ ap Some (sym e)) in omega arith))

-- ---- one more key
pub key_before : (keys : List ℕ) (key row k : ℕ) → slice_get keys row ≡ Some k → slice_get (keys ++ key ∷ []) row ≡ Some k
key_before [] key row k e = cc
key_before (x ∷ xs) key zero k e = e
key_before (x ∷ xs) key (suc row) k e = key_before xs key row k e

pub key_pushed : (slots : List Slot) (new : Slot) → slice_get (keys_of (slots ++ new ∷ [])) (length slots) ≡ Some new.key
key_pushed [] new = refl
key_pushed (x ∷ xs) new = key_pushed xs new

key_cases : (keys : List ℕ) (key row k : ℕ) → slice_get (keys ++ key ∷ []) row ≡ Some k → (slice_get keys row ≡ Some k) ⊎ ((row ≡ length keys) × (k ≡ key))
key_cases [] key zero k e = inr (refl, cc)
key_cases [] key (suc row) k e = cc
key_cases (x ∷ xs) key zero k e = inl e
key_cases (x ∷ xs) key (suc row) k e = elim (key_cases xs key row k e) [ inl h ↦ inl h | inr h ↦ inr (ap suc h.0, h.1) ]

-- a row that has a key is a row of the board, with that key
pub row_inside : (slots : List Slot) (row key : ℕ) → slice_get (keys_of slots) row ≡ Some key → row < length slots
row_inside slots row key e = omega (arith, slice_get_within (keys_of slots) row key e, length-map slots (λ (s : Slot). s.key))

pub row_key : (slots : List Slot) (row : ℕ) (d : Slot) → row < length slots → slice_get (keys_of slots) row ≡ Some (get_or slots row d).key
row_key slots row d l = slice_get-map (λ (s : Slot). s.key) slots row ∙ ap (option_map (λ (s : Slot). s.key)) (slice_get-get_or slots row d l)

-- a head that names a row with another key
pub head_other : (heads : List ℕ) (slots : List Slot) (key head : ℕ) (d : Slot) → (get_or heads head 0 ≡ 0 → ⊥) → get_or heads head 0 ≤ length slots
    → ((get_or slots (get_or heads head 0 - 1) d).key ≡ key → ⊥) → IsOther heads (keys_of slots) key head
head_other heads slots key head d some within differs = let row = get_or heads head 0 - 1 in record {
  row = row;
  names = omega arith;
  held = (get_or slots row d).key;
  is_held = row_key slots row d (omega arith);
  differs = differs;
}

module _ (heads keys : List ℕ) (table : IsHashTable heads keys) (key : ℕ) where
  tried_inside : (tried : ℕ) → head_after (length heads) key tried < length heads
  tried_inside tried = mod-lt (home (length heads) key % length heads + tried) (omega (arith, table.rows_low))

  module _ (others : (head : ℕ) → head < length heads → IsOther heads keys key head) where
    -- no head is free, so there is a row for each
    full_rows : length heads ≡ length keys
    full_rows = omega (arith, table.one_each, taken_most heads, taken_all heads (λ k d l. let o = others k l in omega (arith, get_or_default heads k d 0 l)))

    pub full_others : (row : ℕ) → row < length heads → (held : ℕ) × (slice_get keys row ≡ Some held) × (held ≢ key)
    full_others row l =
        let e : slice_get keys row ≡ Some (get_or keys row 0) = slice_get-get_or keys row 0 (omega (arith, full_rows)) in
        let p = table.probed row (get_or keys row 0) e in
        let o = others (head_after (length heads) (get_or keys row 0) p.tried) (mod-lt (home (length heads) (get_or keys row 0) % length heads + p.tried) (omega (arith, table.rows_low))) in
        let same : o.row ≡ row = omega arith in
        (o.held, subst (λ (z : ℕ). slice_get keys z ≡ Some o.held) same o.is_held, o.differs)

  module _ (head : ℕ) (free : IsFree heads keys key head) where
    head_inside : head < length heads
    head_inside = rw free.here (tried_inside free.tried)

    -- a free head leaves room for a row
    pub room : length keys < length heads
    room = omega (arith, table.one_each, taken_more heads head 0 head_inside free.free, taken_most (set heads head 1), length-set heads head 1)

    pub no_row : (row : ℕ) → slice_get keys row ≡ Some key → ⊥
    no_row row e = let p = table.probed row key e in let last = free.tried in elim (cases_lt p.tried last) [
      | inl l ↦ let o = free.passed p.tried l in let same : o.row ≡ row = omega arith in let at = rw same at o.is_held in let is : o.held ≡ key = cc in o.differs is
      | inr ge ↦ let none = rw free.here at free.free in elim (cases_lt last p.tried) [
        | inl l ↦ omega (arith, p.passed last l)
        | inr le ↦ let same : p.tried ≡ last = omega arith in let names = rw same at p.names in omega arith
      ]
    ]

    -- a head that is not free stays as it is
    stays : (place named : ℕ) → 1 ≤ slice_index heads place → slice_index (set heads head named) place ≡ slice_index heads place
    stays place named l =
        let apart : place ≢ head = λ e. let same : slice_index heads place ≡ 0 = ap (slice_index heads) e ∙ free.free in omega arith in
        get_or-set_other heads head place named 0 apart

    module _ (named row k tried : ℕ) (inside : tried < length heads) (names : slice_index (set heads head named) (head_after (length heads) k tried) ≡ row + 1)
        (passed : (t : ℕ) → t < tried → 1 ≤ slice_index heads (head_after (length heads) k t)) where
      probed_after : IsProbed (set heads head named) k row
      probed_after = record {
        tried = tried;
        inside = rw length-set inside;
        names = rw length-set names;
        passed = λ t l. let still = stays (head_after (length heads) k t) named (passed t l) in rw length-set (omega (arith, still, passed t l));
      }

    pub table_claims : IsHashTable (set heads head (length keys + 1)) (keys ++ key ∷ [])
    table_claims = let row = length keys in let named = row + 1 in record {
      rows_low = rw length-set table.rows_low;
      rows_high = rw length-set table.rows_high;
      named = All-set (λ (n : ℕ). n ≤ length (keys ++ key ∷ [])) heads head named (omega (arith, length_push keys key))
          (All-weaker (λ (n : ℕ). n ≤ length keys) (λ (n : ℕ). n ≤ length (keys ++ key ∷ [])) (λ n h. omega (arith, length_push keys key)) heads table.named);
      one_each = taken_more heads head row head_inside free.free ∙ ap (λ (z : ℕ). z + 1) table.one_each ∙ sym (length_push keys key);
      probed = λ other k e. elim (key_cases keys key other k e) [
        | inl h ↦ let p = table.probed other k h in probed_after named other k p.tried p.inside (stays _ named (omega (arith, p.names)) ∙ p.names) p.passed
        | inr h ↦ rw (h.0, h.1) (probed_after named row key free.tried free.inside
            (subst (λ (z : ℕ). slice_index (set heads head named) z ≡ named) free.here (get_or-set_same heads head named 0 head_inside)) (λ t l. let o = free.passed t l in omega arith))
      ];
      apart = λ r o k e f. elim (key_cases keys key r k e) [
        | inl h ↦ elim (key_cases keys key o k f) [
          | inl j ↦ table.apart r o k h j
          | inr j ↦ absurd (no_row r (rw j.1 at h))
        ]
        | inr h ↦ elim (key_cases keys key o k f) [
          | inl j ↦ absurd (no_row o (rw h.1 at j))
          | inr j ↦ h.0 ∙ sym j.0
        ]
      ];
    }
