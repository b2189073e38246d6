-- The number of a part of a list, and of a hand, number by number.
use Rattle.std.proofs.Common.{◌≡◌, ℕ, zero, suc, ◌+◌, ◌*◌, ◌/◌, ◌%◌, ◌^◌, ◌<◌, ◌≤◌, ◌-◌, Bool, true, false, cond, eqb, ltb, List, [], ◌∷◌, length, get_or, drop, refl, sym, ap, ap₂, subst, ◌∙◌, inl, inr, arith, add-one}
use Rattle.std.proofs.lemmas.Bool.{agree_below_at, cases_lt, cond-false, eq-eqb, eqb-true, le-ltb, lt-ltb, ne_eqb}
use Rattle.std.proofs.lemmas.List.{length-drop, drop_more, drop_all}
use Rattle.std.proofs.lemmas.List.FromFn.{length-range_with_len}
use Rattle.std.specs.List.{range_with_len}
use Rattle.std.proofs.lemmas.Nat.{and_block, ones-le, pow_pos, shl_below}
use Rattle.std.specs.Int.Bits.{bit_and, and_self}
use Rattle.std.proofs.Math.Nat.{pow-succ', div-eq_of_lt, div-div-eq-div-mul}
use Rattle.std.specs.Int.Count.{ones, ones_step}
use Rattle.state_key.proofs.SetLemmas.{members_count, members_induction}
use Rattle.state_key.specs.Sets.{members}
use Rattle.goofspiel.specs.laws.Cards.{IsRisingFrom, rising_weaker}
use Rattle.goofspiel.specs.Counts.{choose}
use Rattle.goofspiel.specs.declared.places.TheConstants.{FRONT, REST}
use Rattle.goofspiel.specs.laws.Drawn.{members_full}
use Rattle.goofspiel.specs.Places.{is_part, IsPartOf, bits_number, part_number}
use Rattle.goofspiel.specs.laws.Places.{part_tail}

-- ---- the number of a part of a rising list, card by card
-- how many numbers of the list are above a number
abbrev pub above : List ℕ → ℕ → ℕ
above [] x = 0
above (y ∷ all) x = cond (ltb x y) 1 0 + above all x

part_from : (low : ℕ) (all : List ℕ) (x : ℕ) (xs : List ℕ) → IsRisingFrom low all → IsPartOf all (x ∷ xs) → low ≤ x
part_from low [] x xs rises part = absurd (cc)
part_from low (y ∷ all) x xs rises part = step (eqb x y) refl (part_from (suc y) all x xs rises.1) part where
  step : (b : Bool) → eqb x y ≡ b → (IsPartOf all (x ∷ xs) → suc y ≤ x) → cond b (is_part all xs) (is_part all (x ∷ xs)) ≡ true → low ≤ x
  step true same more part = omega (arith, eqb-true x y same, rises.0)
  step false differ more part = let up = more part in omega (arith, up, rises.0)

above_all : (low : ℕ) (all : List ℕ) (x : ℕ) → IsRisingFrom low all → x < low → above all x ≡ length all
above_all low [] x rises h = refl
above_all low (y ∷ all) x rises h = let rest = above_all (suc y) all x rises.1 (omega (arith, rises.0, h)) in rw (lt-ltb x y (omega (arith, rises.0, h))) (omega (arith, rest))

-- a number that the part cannot have does not count
number_skips : (y : ℕ) (all xs : List ℕ) → IsRisingFrom (suc y) all → IsPartOf all xs → part_number (y ∷ all) xs ≡ part_number all xs
number_skips y [] [] rises part = refl
number_skips y (z ∷ all) [] rises part = refl
number_skips y all (x ∷ xs) rises part =
    let up = part_from (suc y) all x xs rises part in
    cond-false (eqb x y) _ _ (ne_eqb x y (λ e. absurd (omega (arith, up, e))))

pub number_cons : (low : ℕ) (all : List ℕ) (x : ℕ) (xs : List ℕ) → IsRisingFrom low all → IsPartOf all (x ∷ xs)
    → part_number all (x ∷ xs) ≡ choose (above all x) (suc (length xs)) + part_number all xs
number_cons low [] x xs rises part = absurd (cc)
number_cons low (y ∷ all) x xs rises part = step (eqb x y) refl (number_cons (suc y) all x xs rises.1) part where
  step : (b : Bool) → eqb x y ≡ b → (IsPartOf all (x ∷ xs) → part_number all (x ∷ xs) ≡ choose (above all x) (suc (length xs)) + part_number all xs)
      → cond b (is_part all xs) (is_part all (x ∷ xs)) ≡ true
      → cond b (choose (length all) (suc (length xs)) + part_number all xs) (part_number all (x ∷ xs))
      ≡ choose (cond (ltb x y) 1 0 + above all x) (suc (length xs)) + part_number (y ∷ all) xs
  step true same more part =
      let e = eqb-true x y same in
      let none : ltb x y ≡ false = le-ltb x y (omega (arith, e)) in
      let higher : 0 + above all x ≡ length all = omega (arith, above_all (suc y) all x rises.1 (omega (arith, e))) in
      rw (none, higher, number_skips y all xs rises.1 part) refl
  step false differ more part =
      let up = part_from (suc y) all x xs rises.1 part in
      let none : ltb x y ≡ false = le-ltb x y (omega (arith, up)) in
      let all_above : 0 + above all x ≡ above all x = omega arith in
      rw (none, all_above, number_skips y all xs rises.1 (part_tail all x xs part)) (more part)

pub part_drop : (all xs : List ℕ) (i : ℕ) → IsPartOf all xs → IsPartOf all (drop i xs)
part_drop all xs zero part = part
part_drop all [] (suc i) part = part
part_drop all (x ∷ xs) (suc i) part = part_drop all xs i (part_tail all x xs part)

-- ---- the numbers of a set above one of its bits
ones_none : ones 0 ≡ 0
unfolding ones
ones_none = refl

record AreAbove (low m : ℕ) (xs : List ℕ) : Type 0 where
  rises : IsRisingFrom low xs
  count : length xs ≡ ones m
  are : (bit : ℕ) → above xs (low + bit) ≡ ones (m / 2 ^ (bit + 1))

-- the lowest bit is taken off
half_off : (m half bit : ℕ) → m / 2 ≡ half → half / 2 ^ (bit + 1) ≡ m / 2 ^ (suc bit + 1)
half_off m half bit e =
    let power : 2 * 2 ^ (bit + 1) ≡ 2 ^ (suc bit + 1) = omega (arith, pow-succ' 2 (bit + 1), ap (λ (k : ℕ). 2 ^ k) (next bit)) in
    ap (λ (n : ℕ). n / 2 ^ (bit + 1)) (sym e) ∙ div-div-eq-div-mul m 2 (2 ^ (bit + 1)) ∙ ap (λ (n : ℕ). m / n) power where
      next : (k : ℕ) → suc (k + 1) ≡ suc k + 1
      next k = omega arith

above_half : (low m half : ℕ) (xs : List ℕ) → m / 2 ≡ half → AreAbove (suc low) half xs → (bit : ℕ) → above xs (low + bit) ≡ ones (m / 2 ^ (bit + 1))
above_half low m half xs e rest zero = above_all (suc low) xs (low + 0) rest.rises (omega arith) ∙ rest.count ∙ ap ones (sym e)
above_half low m half xs e rest (suc bit) =
    let shift : low + suc bit ≡ suc low + bit = omega arith in
    ap (above xs) shift ∙ rest.are bit ∙ ap ones (half_off m half bit e)

above_even : (n low half : ℕ) → AreAbove (suc low) half (members n (suc low) half) → AreAbove low (2 * half) (members n (suc low) half)
above_even n low half rest =
    let xs = members n (suc low) half in
    let e : 2 * half / 2 ≡ half = omega arith in
    record {
      rises = rising_weaker low xs rest.rises;
      count = omega (arith, rest.count, ones_step (2 * half), ap ones e);
      are = above_half low (2 * half) half xs e rest;
    }

above_odd : (n low half : ℕ) → AreAbove (suc low) half (members n (suc low) half) → AreAbove low (2 * half + 1) (low ∷ members n (suc low) half)
above_odd n low half rest =
    let xs = members n (suc low) half in
    let e : (2 * half + 1) / 2 ≡ half = omega arith in
    record {
      rises = (omega arith, rest.rises);
      count = omega (arith, rest.count, ones_step (2 * half + 1), ap ones e);
      are = λ bit. let rest_above = above_half low (2 * half + 1) half xs e rest bit in
          rw (le-ltb (low + bit) low (omega arith)) (omega (arith, rest_above));
    }

are_above : (n low m : ℕ) → m < 2 ^ n → AreAbove low m (members n low m)
are_above = members_induction (λ n low m xs. AreAbove low m xs)
    (λ low. record { rises = tt; count = sym ones_none; are = λ bit. sym (ap ones (div-eq_of_lt (pow_pos (bit + 1))) ∙ ones_none) })
    above_even above_odd

-- ---- sets of all numbers up to some number
even_run : (m : ℕ) → m % 2 ≡ 0 → bit_and m (m + 1) ≡ 0 → m ≡ 0
even_run m even run =
    let h = m / 2 in
    let low : h * 2 ^ 1 + 0 ≡ m = omega (arith, even) in
    let next : h * 2 ^ 1 + 1 ≡ m + 1 = omega (arith, even) in
    let block = rw (low, next) at (and_block 1 h h 0 1 (omega arith) (omega arith)) in
    omega (arith, even, run, block, and_self h)

odd_run : (m : ℕ) → m % 2 ≡ 1 → bit_and m (m + 1) ≡ 0 → bit_and (m / 2) (m / 2 + 1) ≡ 0
odd_run m odd run =
    let h = m / 2 in
    let low : h * 2 ^ 1 + 1 ≡ m = omega (arith, odd) in
    let next : (h + 1) * 2 ^ 1 + 0 ≡ m + 1 = omega (arith, odd) in
    let block = rw (low, next) at (and_block 1 h (h + 1) 1 0 (omega arith) (omega arith)) in
    omega (arith, run, block)

run_is : (k m : ℕ) → m < 2 ^ k → bit_and m (m + 1) ≡ 0 → m ≡ 2 ^ ones m - 1
run_is zero m l run = let none : m ≡ 0 = omega arith in rw none (let e : 2 ^ ones 0 ≡ 1 = ap (λ (n : ℕ). 2 ^ n) ones_none in omega (arith, e))
run_is (suc k) m l run = elim (cases_lt 0 (m % 2)) [
  | inl odd ↦
      let up = run_is k (m / 2) (omega (arith, l, pow-succ' 2 k)) (odd_run m (omega (arith, odd)) run) in
      let more : ones m ≡ suc (ones (m / 2)) = omega (arith, odd, ones_step m) in
      let power : 2 ^ ones m ≡ 2 * 2 ^ ones (m / 2) = ap (λ (n : ℕ). 2 ^ n) more ∙ pow-succ' 2 (ones (m / 2)) in
      omega (arith, odd, up, power, pow_pos (ones (m / 2)))
  | inr even ↦
      let none = even_run m (omega arith) run in
      rw none (let e : 2 ^ ones 0 ≡ 1 = ap (λ (n : ℕ). 2 ^ n) ones_none in omega (arith, e))
]

pub run_members : (low set : ℕ) → set < 2 ^ 13 → bit_and set (set + 1) ≡ 0 → members 13 low set ≡ range_with_len low (ones set)
run_members low set l run = ap (members 13 low) (run_is 13 set l run) ∙ members_full 13 (ones set) low (ones-le 13 set l)

-- ---- the number of a part of such a set
bits_none : (n : ℕ) → bits_number n 0 ≡ 0
bits_none zero = refl
bits_none (suc n) = let none : 0 + bits_number n 0 ≡ bits_number n 0 = omega arith in none ∙ bits_none n

record IsBits (low m : ℕ) (xs : List ℕ) : Type 0 where
  rises : IsRisingFrom low xs
  count : length xs ≡ ones m
  small : (n : ℕ) → IsPartOf (range_with_len low n) xs → m < 2 ^ n
  is : (n : ℕ) → IsPartOf (range_with_len low n) xs → part_number (range_with_len low n) xs ≡ bits_number n m

-- a number below those of the part is no number of it
part_skips : (y : ℕ) (all xs : List ℕ) → IsRisingFrom (suc y) xs → IsPartOf (y ∷ all) xs → IsPartOf all xs × (part_number (y ∷ all) xs ≡ part_number all xs)
part_skips y [] [] rises part = (refl, refl)
part_skips y (z ∷ all) [] rises part = (refl, refl)
part_skips y all (x ∷ xs) rises part =
    let differ = ne_eqb x y (λ e. absurd (omega (arith, rises.0, e))) in
    (sym (cond-false (eqb x y) (is_part all xs) (is_part all (x ∷ xs)) differ) ∙ part, cond-false (eqb x y) _ _ differ)

bits_even : (n low half : ℕ) → IsBits (suc low) half (members n (suc low) half) → IsBits low (2 * half) (members n (suc low) half)
bits_even n low half rest =
    let xs = members n (suc low) half in
    let e : 2 * half / 2 ≡ half = omega arith in
    let bit : 2 * half % 2 ≡ 0 = omega arith in
    record {
      rises = rising_weaker low xs rest.rises;
      count = omega (arith, rest.count, ones_step (2 * half), ap ones e);
      small = small;
      is = is;
    } where
      next : (k : ℕ) → range_with_len (low + 1) k ≡ range_with_len (suc low) k
      next k = ap (λ (l : ℕ). range_with_len l k) (add-one low)

      small : (k : ℕ) → IsPartOf (range_with_len low k) (members n (suc low) half) → 2 * half < 2 ^ k
      small zero part = let none = rest.small 0 part in omega (arith, none)
      small (suc k) part =
          let skip = part_skips low (range_with_len (low + 1) k) (members n (suc low) half) rest.rises part in
          let less = rest.small k (rw (next k) at skip.0) in
          omega (arith, less, pow-succ' 2 k)

      is : (k : ℕ) → IsPartOf (range_with_len low k) (members n (suc low) half) → part_number (range_with_len low k) (members n (suc low) half) ≡ bits_number k (2 * half)
      is zero part = rest.is 0 part
      is (suc k) part =
          let skip = part_skips low (range_with_len (low + 1) k) (members n (suc low) half) rest.rises part in
          let here = rest.is k (rw (next k) at skip.0) in
          let e : 2 * half / 2 ≡ half = omega arith in
          let bit : 2 * half % 2 ≡ 0 = omega arith in
          let none : 0 + bits_number k half ≡ bits_number k half = omega arith in
          rw (e, bit, none) (skip.1 ∙ ap (λ (all : List ℕ). part_number all (members n (suc low) half)) (next k) ∙ here)

bits_odd : (n low half : ℕ) → IsBits (suc low) half (members n (suc low) half) → IsBits low (2 * half + 1) (low ∷ members n (suc low) half)
bits_odd n low half rest =
    let e : (2 * half + 1) / 2 ≡ half = omega arith in
    record {
      rises = (omega arith, rest.rises);
      count = omega (arith, rest.count, ones_step (2 * half + 1), ap ones e);
      small = small;
      is = is;
    } where
      all : ℕ → List ℕ
      all k = range_with_len (low + 1) k

      part_rest : (k : ℕ) → IsPartOf (low ∷ range_with_len (low + 1) k) (low ∷ members n (suc low) half) → IsPartOf (range_with_len (suc low) k) (members n (suc low) half)
      part_rest k part = rw (eq-eqb low low refl, add-one low) at part

      small : (k : ℕ) → IsPartOf (range_with_len low k) (low ∷ members n (suc low) half) → 2 * half + 1 < 2 ^ k
      small zero part = absurd (cc)
      small (suc k) part = let less = rest.small k (part_rest k part) in omega (arith, less, pow-succ' 2 k)

      is : (k : ℕ) → IsPartOf (range_with_len low k) (low ∷ members n (suc low) half) → part_number (range_with_len low k) (low ∷ members n (suc low) half) ≡ bits_number k (2 * half + 1)
      is zero part = absurd (cc)
      is (suc k) part =
          let here = rest.is k (part_rest k part) in
          let e : (2 * half + 1) / 2 ≡ half = omega arith in
          let bit : (2 * half + 1) % 2 ≡ 1 = omega arith in
          let more : suc (length (members n (suc low) half)) ≡ ones (2 * half + 1) = omega (arith, rest.count, ones_step (2 * half + 1), ap ones e) in
          let long : length (range_with_len (suc low) k) ≡ k = length-range_with_len (suc low) k in
          rw (eq-eqb low low refl, e, bit, add-one low, long, more, here) refl

are_bits : (n low m : ℕ) → m < 2 ^ n → IsBits low m (members n low m)
are_bits = members_induction (λ n low m xs. IsBits low m xs)
    (λ low. record { rises = tt; count = sym ones_none; small = λ n part. pow_pos n; is = none low })
    bits_even bits_odd where
      none : (low n : ℕ) → IsPartOf (range_with_len low n) [] → part_number (range_with_len low n) [] ≡ bits_number n 0
      none low zero part = refl
      none low (suc n) part = omega (arith, bits_none n)

pub part_is_bits : (low n part : ℕ) → part < 2 ^ 13 → IsPartOf (range_with_len low n) (members 13 low part)
    → (part < 2 ^ n) × (part_number (range_with_len low n) (members 13 low part) ≡ bits_number n part)
part_is_bits low n part l within = let bits = are_bits 13 low part l in (bits.small n within, bits.is n within)

-- bits that all stand d places higher
pub bits_shifted : (d n m : ℕ) → bits_number (d + n) (m * 2 ^ d) ≡ bits_number n m
bits_shifted zero n m =
    let same : 0 + n ≡ n = omega arith in
    let all : m * 2 ^ 0 ≡ m = omega arith in
    rw (same, all) refl
bits_shifted (suc d) n m =
    let next : suc d + n ≡ suc (d + n) = omega arith in
    let twice : m * 2 ^ suc d ≡ 2 * (m * 2 ^ d) = omega (arith, ap (λ (k : ℕ). m * k) (pow-succ' 2 d)) in
    let bit : 2 * (m * 2 ^ d) % 2 ≡ 0 = omega arith in
    let half : 2 * (m * 2 ^ d) / 2 ≡ m * 2 ^ d = omega arith in
    let none : 0 + bits_number (d + n) (m * 2 ^ d) ≡ bits_number (d + n) (m * 2 ^ d) = omega arith in
    rw (next, twice, bit, half, none) (bits_shifted d n m)

-- the number of a part of all numbers up to some number, whose bits stand as high as they can
pub part_of_run : (set part size low : ℕ) → set < 2 ^ 13 → part < 2 ^ 13 → bit_and set (set + 1) ≡ 0 → size ≡ length (members 13 low set) → IsPartOf (members 13 low set) (members 13 low part)
    → bits_number 13 (part * 2 ^ (13 - size) % 65536 % 8192) ≡ part_number (members 13 low set) (members 13 low part)
part_of_run set part size low l h run count within =
    let all = run_members low set l run in
    let many : size ≡ ones set = count ∙ members_count 13 low set l in
    let bits = part_is_bits low (ones set) part h (subst (λ (ys : List ℕ). IsPartOf ys (members 13 low part)) all within) in
    let d = 13 - ones set in
    let whole : ones set + d ≡ 13 = omega (arith, ones-le 13 set l) in
    let high : part * 2 ^ d < 2 ^ 13 = subst (λ (n : ℕ). part * 2 ^ d < 2 ^ n) whole (shl_below part (ones set) d bits.0) in
    let kept : part * 2 ^ d % 65536 % 8192 ≡ part * 2 ^ d = omega (arith, high) in
    let turned : d + ones set ≡ 13 = omega (arith, whole) in
    ap (λ (n : ℕ). bits_number 13 (part * 2 ^ (13 - n) % 65536 % 8192)) many ∙ ap (bits_number 13) kept
    ∙ subst (λ (n : ℕ). bits_number n (part * 2 ^ d) ≡ bits_number (ones set) part) turned (bits_shifted d (ones set) part)
    ∙ sym bits.1 ∙ ap (λ (ys : List ℕ). part_number ys (members 13 low part)) (sym all)

-- ---- the lowest bits of a set and the others
-- what the lowest bits add, where the set has so many others
abbrev pub low_number : ℕ → ℕ → ℕ → ℕ → ℕ
low_number zero above others low = 0
low_number (suc count) above others low = cond (eqb (low % 2) 1) (choose (count + above) (ones low + others)) 0 + low_number count above others (low / 2)

bits_split : (j t m l h : ℕ) → m ≡ h * 2 ^ j + l → l < 2 ^ j → (ones m ≡ ones l + ones h) × (bits_number (j + t) m ≡ low_number j t (ones h) l + bits_number t h)
bits_split zero t m l h is low =
    let none : l ≡ 0 = omega (arith, low) in
    let all : m ≡ h = omega (arith, is, none) in
    let same : 0 + t ≡ t = omega arith in
    (omega (arith, ap ones all, ap ones none, ones_none), rw (same, all) (omega arith))
bits_split (suc j) t m l h is low =
    let next : suc j + t ≡ suc (j + t) = omega arith in
    let twice : h * 2 ^ suc j ≡ 2 * (h * 2 ^ j) = omega (arith, ap (λ (k : ℕ). h * k) (pow-succ' 2 j)) in
    let half : m / 2 ≡ h * 2 ^ j + l / 2 = omega (arith, is, twice) in
    let bit : m % 2 ≡ l % 2 = omega (arith, is, twice) in
    let rest = bits_split j t (m / 2) (l / 2) h half (omega (arith, low, pow-succ' 2 j)) in
    let all : ones m ≡ ones l + ones h = omega (arith, bit, rest.0, ones_step m, ones_step l) in
    (all, rw (next, bit, all, rest.1) (omega arith))

-- ---- the tables of both
front_at : (i : ℕ) → i < 128 → get_or FRONT i 0 ≡ bits_number 7 i
unfolding ones
front_at i l = eqb-true _ _ (agree_below_at (λ (k : ℕ). eqb (get_or FRONT k 0) (bits_number 7 k)) (λ _. true) 128 i refl l)

rest_at : (i : ℕ) → i < 512 → get_or REST i 0 ≡ low_number 6 7 (i / 64) (i % 64)
unfolding ones
rest_at i l = eqb-true _ _ (agree_below_at (λ (k : ℕ). eqb (get_or REST k 0) (low_number 6 7 (k / 64) (k % 64))) (λ _. true) 512 i refl l)

pub bits_looked_up : (m others : ℕ) → m < 8192 → others ≡ ones (m / 64) → get_or FRONT (m / 64) 0 + get_or REST (others * 64 + m % 64) 0 ≡ bits_number 13 m
bits_looked_up m others small is =
    let few : others ≤ 7 = omega (arith, is, ones-le 7 (m / 64) (omega arith)) in
    let row : (others * 64 + m % 64) / 64 ≡ others = omega arith in
    let place : (others * 64 + m % 64) % 64 ≡ m % 64 = omega arith in
    let split = bits_split 6 7 m (m % 64) (m / 64) (omega arith) (omega arith) in
    let rest : get_or REST (others * 64 + m % 64) 0 ≡ low_number 6 7 (ones (m / 64)) (m % 64) =
    rest_at (others * 64 + m % 64) (omega arith) ∙ ap₂ (low_number 6 7) (row ∙ is) place in
    omega (arith, split.1, front_at (m / 64) (omega arith), rest)

-- ---- the number of a part of a set, number by number
-- the first numbers of the part are counted
pub record IsCounted (set part counted : ℕ) (number low : ℕ) : Type 0 where
  pub is : IsPartOf (members 13 low set) (members 13 low part)
      → number + part_number (members 13 low set) (drop counted (members 13 low part)) ≡ part_number (members 13 low set) (members 13 low part)

-- one number more, at a bit of the set
pub counted_more : (set part counted number low bit : ℕ) → set < 2 ^ 13 → counted < length (members 13 low part) → low + bit ≡ get_or (members 13 low part) counted 0
    → IsCounted set part counted number low
    → IsCounted set part (counted + 1) (number + choose (ones (set / 2 ^ (bit + 1))) (length (members 13 low part) - counted)) low
counted_more set part counted number low bit small some at so_far = record {
  is = λ within.
      let all = members 13 low set in
      let xs = members 13 low part in
      let rest = drop (counted + 1) xs in
      let first = drop_more xs counted 0 some in
      let left : suc (length rest) ≡ length xs - counted = omega (arith, length-drop (counted + 1) xs) in
      let here = are_above 13 low set small in
      let higher : above all (get_or xs counted 0) ≡ ones (set / 2 ^ (bit + 1)) = ap (above all) (sym at) ∙ here.are bit in
      let cons = number_cons low all (get_or xs counted 0) rest here.rises (subst (IsPartOf all) first (part_drop all xs counted within)) in
      let split : part_number all (drop counted xs) ≡ choose (ones (set / 2 ^ (bit + 1))) (length xs - counted) + part_number all rest =
      ap (part_number all) first ∙ cons ∙ ap₂ (λ (a b : ℕ). choose a b + part_number all rest) higher left in
      let before = so_far.is within in
      omega (arith, before, split);
}

pub counted_all : (set part counted number low : ℕ) → length (members 13 low part) ≤ counted → IsCounted set part counted number low
    → IsPartOf (members 13 low set) (members 13 low part) → number ≡ part_number (members 13 low set) (members 13 low part)
counted_all set part counted number low past so_far within =
    let none : part_number (members 13 low set) (drop counted (members 13 low part)) ≡ 0 =
    ap (part_number (members 13 low set)) (drop_all counted (members 13 low part) past) ∙ number_none (members 13 low set) in
    omega (arith, so_far.is within, none) where
      number_none : (all : List ℕ) → part_number all [] ≡ 0
      number_none [] = refl
      number_none (y ∷ all) = refl
