-- Sets and their lists: one number more, how many there are, and the number at a place.
use Rattle.std.proofs.Common.{◌≡◌, ℕ, zero, suc, ◌+◌, ◌-◌, ◌*◌, ◌/◌, ◌%◌, ◌^◌, ◌<◌, ◌≤◌, ◌≢◌, Bool, true, false, ◌||◌, cond, eqb, List, [], ◌∷◌, length, get_or, drop, refl, sym, ap, subst, ◌∙◌, inl, inr, arith, add-one}
use Rattle.std.proofs.Math.Nat.{pow-succ'}
use Rattle.std.proofs.Math.Pow.{pow-lt}
use Rattle.std.proofs.lemmas.Bool.{cases_eq, cases_lt, eq-eqb, eqb-false, ne_eqb, or_right}
use Rattle.std.proofs.lemmas.List.{length-drop, drop_more}
use Rattle.std.proofs.lemmas.Nat.{and_block, and_le_l, or_disjoint, or_lt}
use Rattle.std.proofs.lemmas.Nat.Bits.{and_pow, bit_at_lowest, bit_at-suc, bit_at-zero, bit_at_or, bit_at-pow_same, bit_at-pow_other, bit_at-lt, same_from_bits}
use Rattle.std.specs.Int.{bit_at}
use Rattle.std.specs.Int.Bits.{bit_and, and_self, and_zero_l, and_zero_r}
use Rattle.std.specs.Int.Count.{ones, ones_step, count_trailing_zeros}
use Rattle.std.specs.List.{filter, range_with_len}
use Rattle.state_key.specs.Sets.{is_in, with_number, members}

-- ---- bits and tests
pub bit_clear : (set number : ℕ) → is_in set number ≡ false → bit_at set number ≡ 0
bit_clear set number out =
    let apart = eqb-false (bit_at set number) 1 out in
    let small = bit_at-lt set number in
    omega arith

-- a bit by its test
pub bit_is : (set number : ℕ) → bit_at set number ≡ cond (is_in set number) 1 0
bit_is set number = elim (cases_lt (bit_at set number) 1) [
  | inl out ↦ let clear : bit_at set number ≡ 0 = omega arith in rw clear refl
  | inr there ↦ let one : bit_at set number ≡ 1 = omega (arith, bit_at-lt set number) in rw one refl
]

pub same_set : (set other : ℕ) → ((number : ℕ) → is_in set number ≡ is_in other number) → set ≡ other
same_set set other agree = same_from_bits set other (λ number. bit_is set number ∙ ap (λ (b : Bool). cond b 1 0) (agree number) ∙ sym (bit_is other number))

-- a number with no bit from n on is below 2 ^ n
pub below_bits : (n set : ℕ) → ((i : ℕ) → n ≤ i → bit_at set i ≡ 0) → set < 2 ^ n
below_bits zero set h = let none = same_from_bits set 0 (λ i. h i (omega arith) ∙ sym (bit_at-zero i)) in omega arith
below_bits (suc n) set h =
    let half = below_bits n (set / 2) (λ i l. sym (bit_at-suc set i) ∙ h (suc i) (omega arith)) in
    omega (arith, pow-succ' 2 n)

-- ---- one number more
pub or_last : (a b : Bool) → b ≡ false → (a || b) ≡ a
or_last true b h = refl
or_last false b h = h

pub bit_other : (set number i : ℕ) → i ≢ number → bit_at (with_number set number) i ≡ bit_at set i
bit_other set number i h = omega (arith, bit_at_or set (2 ^ number) i, bit_at-pow_other number i h)

pub in_with : (set number other : ℕ) → is_in (with_number set number) other ≡ (is_in set other || eqb number other)
in_with set number other = elim (cases_eq other number) [
  | inl same ↦
      let bit : bit_at (with_number set number) other ≡ 1 = rw same (omega (arith, bit_at_or set (2 ^ number) number, bit_at-pow_same number, bit_at-lt set number)) in
      eq-eqb _ _ bit ∙ sym (or_right (is_in set other) _ (eq-eqb number other (sym same)))
  | inr differ ↦ ap (λ (b : ℕ). eqb b 1) (bit_other set number other differ) ∙ sym (or_last (is_in set other) _ (ne_eqb number other (λ e. differ (sym e))))
]

pub with_below : (n set number : ℕ) → number < n → set < 2 ^ n → with_number set number < 2 ^ n
with_below n set number h small = or_lt n set (2 ^ number) small (pow-lt h)

ones_more : (k n : ℕ) → bit_at n k ≡ 0 → ones (n + 2 ^ k) ≡ ones n + 1
ones_more zero n h =
    let low : n % 2 ≡ 0 = sym (bit_at_lowest n) ∙ h in
    let half : (n + 1) / 2 ≡ n / 2 = omega arith in
    omega (arith, ones_step n, ones_step (n + 1), ap ones half)
ones_more (suc k) n h =
    let d = pow-succ' 2 k in
    let half : (n + 2 ^ suc k) / 2 ≡ n / 2 + 2 ^ k = omega (arith, d) in
    omega (arith, d, ones_step n, ones_step (n + 2 ^ suc k), ap ones half, ones_more k (n / 2) (sym (bit_at-suc n k) ∙ h))

-- a number that is not in the set makes it one larger
pub ones_with : (set number : ℕ) → bit_at set number ≡ 0 → ones (with_number set number) ≡ ones set + 1
ones_with set number clear =
    let none : bit_at set number * 2 ^ number ≡ 0 = rw clear (omega arith) in
    ap ones (or_disjoint set (2 ^ number) (and_pow set number ∙ none)) ∙ ones_more number set clear

-- ---- the list of a set by halves: its lowest bit, and the others
-- two tests that agree on a range keep the same numbers of it
pub filter_agrees : (p q : ℕ → Bool) (n low : ℕ) → ((x : ℕ) → low ≤ x → x < low + n → p x ≡ q x) → filter p (range_with_len low n) ≡ filter q (range_with_len low n)
filter_agrees p q zero low h = refl
filter_agrees p q (suc n) low h =
    ap (λ (b : Bool). cond b (low ∷ filter p (range_with_len (low + 1) n)) (filter p (range_with_len (low + 1) n))) (h low (omega arith) (omega arith))
    ∙ ap (λ (xs : List ℕ). cond (q low) (low ∷ xs) xs) (filter_agrees p q n (low + 1) (λ x l u. h x (omega arith) (omega arith)))

pub members_none : (low m : ℕ) → members 0 low m ≡ []
unfolding members
members_none low m = refl

pub members_step : (n low m : ℕ) → members (suc n) low m ≡ cond (eqb (m % 2) 1) (low ∷ members n (suc low) (m / 2)) (members n (suc low) (m / 2))
unfolding members
members_step n low m =
    let p : ℕ → Bool = λ x. eqb (bit_at m (x - low)) 1 in
    let q : ℕ → Bool = λ x. eqb (bit_at (m / 2) (x - suc low)) 1 in
    let none : low - low ≡ 0 = omega arith in
    let bit : bit_at m (low - low) ≡ m % 2 = ap (bit_at m) none ∙ bit_at_lowest m in
    let rest : filter p (range_with_len (low + 1) n) ≡ members n (suc low) (m / 2) =
    filter_agrees p q n (low + 1) (λ x l u. let e : x - low ≡ suc (x - suc low) = omega arith in ap (λ (b : ℕ). eqb b 1) (ap (bit_at m) e ∙ bit_at-suc m (x - suc low)))
    ∙ ap (λ (l : ℕ). filter q (range_with_len l n)) (add-one low) in
    ap (λ (b : ℕ). cond (eqb b 1) (low ∷ filter p (range_with_len (low + 1) n)) (filter p (range_with_len (low + 1) n))) bit
    ∙ ap (λ (xs : List ℕ). cond (eqb (m % 2) 1) (low ∷ xs) xs) rest

pub members_even : (n low half : ℕ) → members (suc n) low (2 * half) ≡ members n (suc low) half
members_even n low half =
    let bit : 2 * half % 2 ≡ 0 = omega arith in
    let rest : 2 * half / 2 ≡ half = omega arith in
    rw (bit, rest) at (members_step n low (2 * half))

pub members_odd : (n low half : ℕ) → members (suc n) low (2 * half + 1) ≡ low ∷ members n (suc low) half
members_odd n low half =
    let bit : (2 * half + 1) % 2 ≡ 1 = omega arith in
    let rest : (2 * half + 1) / 2 ≡ half = omega arith in
    rw (bit, rest) at (members_step n low (2 * half + 1))

-- each number is twice its half, or one more
pub by_halves : (P : ℕ → Type 0) → ((h : ℕ) → P (2 * h)) → ((h : ℕ) → P (2 * h + 1)) → (m : ℕ) → P m
by_halves P even odd m = elim (cases_lt (m % 2) 1) [
  | inl none ↦ let e : 2 * (m / 2) ≡ m = omega arith in subst P e (even (m / 2))
  | inr one ↦ let e : 2 * (m / 2) + 1 ≡ m = omega arith in subst P e (odd (m / 2))
]

pub halved : (n h : ℕ) → 2 * h < 2 ^ suc n → h < 2 ^ n
halved n h l = omega (arith, pow-succ' 2 n)

-- what holds of no number, and with each half of a set of the set itself, holds of each set and its list
pub members_induction : (P : ℕ → ℕ → ℕ → List ℕ → Type 0) → ((low : ℕ) → P 0 low 0 [])
    → ((n low half : ℕ) → P n (suc low) half (members n (suc low) half) → P (suc n) low (2 * half) (members n (suc low) half))
    → ((n low half : ℕ) → P n (suc low) half (members n (suc low) half) → P (suc n) low (2 * half + 1) (low ∷ members n (suc low) half))
    → (n low m : ℕ) → m < 2 ^ n → P n low m (members n low m)
members_induction P none even odd zero low m l = let nothing : m ≡ 0 = omega arith in rw nothing (subst (P 0 low 0) (sym (members_none low 0)) (none low))
members_induction P none even odd (suc n) low m l = by_halves (λ (k : ℕ). k < 2 ^ suc n → P (suc n) low k (members (suc n) low k))
    (λ h l. subst (P (suc n) low (2 * h)) (sym (members_even n low h)) (even n low h (members_induction P none even odd n (suc low) h (halved n h l))))
    (λ h l. subst (P (suc n) low (2 * h + 1)) (sym (members_odd n low h)) (odd n low h (members_induction P none even odd n (suc low) h (halved n h (omega arith)))))
    m l

ones_none : ones 0 ≡ 0
unfolding ones
ones_none = refl

-- how many numbers there are
pub members_count : (n low m : ℕ) → m < 2 ^ n → length (members n low m) ≡ ones m
members_count = members_induction (λ n low m xs. length xs ≡ ones m) (λ low. sym ones_none)
    (λ n low h rest. let half : 2 * h / 2 ≡ h = omega arith in omega (arith, rest, ones_step (2 * h), ap ones half))
    (λ n low h rest. let half : (2 * h + 1) / 2 ≡ h = omega arith in omega (arith, rest, ones_step (2 * h + 1), ap ones half))

-- ---- the lowest number, and the others
and_even : (h : ℕ) → 0 < h → bit_and (2 * h) (2 * h - 1) ≡ 2 * bit_and h (h - 1)
and_even h p =
    let m : h * 2 ^ 1 + 0 ≡ 2 * h = omega arith in
    let less : (h - 1) * 2 ^ 1 + 1 ≡ 2 * h - 1 = omega arith in
    omega (arith, rw (m, less) at (and_block 1 h (h - 1) 0 1 (omega arith) (omega arith)), and_zero_l 1)

and_odd : (h : ℕ) → bit_and (2 * h + 1) (2 * h + 1 - 1) ≡ 2 * h
and_odd h =
    let m : h * 2 ^ 1 + 1 ≡ 2 * h + 1 = omega arith in
    let less : h * 2 ^ 1 + 0 ≡ 2 * h + 1 - 1 = omega arith in
    omega (arith, rw (m, less) at (and_block 1 h h 1 0 (omega arith) (omega arith)), and_self h, and_zero_r 1)

pub members_lowest : (n low k m : ℕ) → n ≤ k → 0 < m → m < 2 ^ n → members n low m ≡ (low + count_trailing_zeros k m) ∷ members n low (bit_and m (m - 1))
unfolding count_trailing_zeros
members_lowest zero low k m e p l = absurd (omega arith)
members_lowest (suc n) low zero m e p l = absurd (omega arith)
members_lowest (suc n) low (suc k) m e p l = by_halves
    (λ (m : ℕ). 0 < m → m < 2 ^ suc n → members (suc n) low m ≡ (low + count_trailing_zeros (suc k) m) ∷ members (suc n) low (bit_and m (m - 1)))
    (λ h p l.
    let bit : 2 * h % 2 ≡ 0 = omega arith in
    let half : 2 * h / 2 ≡ h = omega arith in
    let shift : low + suc (count_trailing_zeros k h) ≡ suc low + count_trailing_zeros k h = omega arith in
    let rest = members_lowest n (suc low) k h (omega arith) (omega arith) (halved n h l) in
    rw (bit, half, shift, and_even h (omega arith)) (members_even n low h ∙ rest ∙ ap (λ (xs : List ℕ). (suc low + count_trailing_zeros k h) ∷ xs) (sym (members_even n low (bit_and h (h - 1))))))
    (λ h p l.
    let bit : (2 * h + 1) % 2 ≡ 1 = omega arith in
    let first : low + 0 ≡ low = omega arith in
    rw (bit, first, and_odd h) (members_odd n low h ∙ ap (λ (xs : List ℕ). low ∷ xs) (sym (members_even n low h))))
    m p l

-- ---- the walk over a set to the number at a place
-- what is left of the list where its lowest numbers, this many, are gone
pub record IsDropped (n low : ℕ) (xs : List ℕ) (count rest : ℕ) : Type 0 where
  pub small : rest < 2 ^ n
  pub is : members n low rest ≡ drop count xs

-- a number is left
left_over : (n low : ℕ) (xs : List ℕ) (count rest : ℕ) → count < length xs → IsDropped n low xs count rest → 0 < rest
left_over n low xs count rest l d =
    let some : length (members n low rest) ≡ length xs - count = ap length d.is ∙ length-drop count xs in
    elim (cases_lt 0 rest) [
      | inl left ↦ left
      | inr none ↦ let zero_left : rest ≡ 0 = omega arith in absurd (omega (arith, some, members_count n low rest d.small, ap ones zero_left, ones_none))
    ]

-- the lowest number that is left is the one at the place; k is the width of the machine's number
pub next_number : (k n low : ℕ) (xs : List ℕ) (count rest : ℕ) → n ≤ k → count < length xs → IsDropped n low xs count rest
    → (0 < rest) × (low + count_trailing_zeros k rest ≡ get_or xs count 0) × IsDropped n low xs (count + 1) (bit_and rest (rest - 1))
next_number k n low xs count rest few l d =
    let left = left_over n low xs count rest l d in
    let split : (low + count_trailing_zeros k rest) ∷ members n low (bit_and rest (rest - 1)) ≡ get_or xs count 0 ∷ drop (count + 1) xs =
    sym (members_lowest n low k rest few left d.small) ∙ d.is ∙ drop_more xs count 0 l in
    (left, ap (λ (ys : List ℕ). get_or ys 0 0) split, record { small = omega (arith, d.small, and_le_l rest (rest - 1)); is = ap (drop 1) split })
