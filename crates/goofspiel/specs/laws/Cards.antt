-- A packed set and its list say the same.
use Rattle.std.proofs.Common.{◌≡◌, ℕ, zero, suc, ◌+◌, ◌-◌, ◌*◌, ◌^◌, ◌<◌, ◌≤◌, eqb, List, [], ◌∷◌, length, get_or, refl, sym, ap, subst, ◌∙◌, arith}
use Rattle.std.proofs.Math.Nat.{pow-succ'}
use Rattle.std.proofs.lemmas.List.Edits.{length-remove}
use Rattle.std.proofs.lemmas.List.FromFn.{get_or-range_with_len, length-range_with_len}
use Rattle.std.proofs.lemmas.List.Kept.{IsStrictlyIncreasing-filter}
use Rattle.std.proofs.lemmas.List.Elements.{All-from_get_or}
use Rattle.std.proofs.lemmas.List.Sums.{sum_by-cons}
use Rattle.std.proofs.lemmas.Nat.{ones-le}
use Rattle.std.specs.Int.{bit_at}
use Rattle.std.specs.List.{All, range_with_len, remove}
use Rattle.std.specs.List.Sorted.{IsStrictlyIncreasing}
use Rattle.state_key.proofs.SetLemmas.{members_even, members_odd, members_count, members_induction}
use Rattle.state_key.specs.Sets.{members}
use Rattle.goofspiel.specs.Cards.{cards, packed, packed_from}

pub few_members : (low set : ℕ) → set < 2 ^ 13 → length (members 13 low set) ≤ 13
few_members low set h = omega (arith, members_count 13 low set h, ones-le 13 set h)

pub few_cards : (hand : ℕ) → hand < 2 ^ 13 → length (cards hand) ≤ 13
few_cards hand h = few_members 1 hand h

-- ---- a number is taken out
-- what holds of the number at place `i` of the list `xs` of a packed set
pub record IsTakenOut (n low m i : ℕ) (xs : List ℕ) : Type 0 where
  pub first : low ≤ get_or xs i 0
  pub last : get_or xs i 0 < low + n
  pub held : 2 ^ (get_or xs i 0 - low) ≤ m
  pub left : members n low (m - 2 ^ (get_or xs i 0 - low)) ≡ remove xs i

double : (low x : ℕ) → suc low ≤ x → 2 ^ (x - low) ≡ 2 * 2 ^ (x - suc low)
double low x h =
    let e : x - low ≡ suc (x - suc low) = omega arith in
    ap (λ (k : ℕ). 2 ^ k) e ∙ pow-succ' 2 (x - suc low)

one_bit : (low : ℕ) → 2 ^ (low - low) ≡ 1
one_bit low =
    let e : low - low ≡ 0 = omega arith in
    ap (λ (k : ℕ). 2 ^ k) e

taken_even : (n low half i : ℕ) (xs : List ℕ) → IsTakenOut n (suc low) half i xs → IsTakenOut (suc n) low (2 * half) i xs
taken_even n low half i xs t =
    let x = get_or xs i 0 in
    let d = double low x t.first in
    let e : 2 * half - 2 ^ (x - low) ≡ 2 * (half - 2 ^ (x - suc low)) = omega (arith, d) in
    record {
      first = omega (arith, t.first);
      last = omega (arith, t.last);
      held = omega (arith, d, t.held);
      left = ap (members (suc n) low) e ∙ members_even n low (half - 2 ^ (x - suc low)) ∙ t.left;
    }

taken_odd : (n low half : ℕ) (xs : List ℕ) → xs ≡ members n (suc low) half → ((i : ℕ) → i < length xs → IsTakenOut n (suc low) half i xs)
    → (i : ℕ) → i < length (low ∷ xs) → IsTakenOut (suc n) low (2 * half + 1) i (low ∷ xs)
taken_odd n low half xs is more zero l =
    let d = one_bit low in
    let e : 2 * half + 1 - 2 ^ (low - low) ≡ 2 * half = omega (arith, d) in
    record {
      first = omega arith;
      last = omega arith;
      held = omega (arith, d);
      left = ap (members (suc n) low) e ∙ members_even n low half ∙ sym is;
    }
taken_odd n low half xs is more (suc i) l =
    let t = more i (omega arith) in
    let x = get_or xs i 0 in
    let d = double low x t.first in
    let e : 2 * half + 1 - 2 ^ (x - low) ≡ 2 * (half - 2 ^ (x - suc low)) + 1 = omega (arith, d, t.held) in
    record {
      first = omega (arith, t.first);
      last = omega (arith, t.last);
      held = omega (arith, d, t.held);
      left = ap (members (suc n) low) e ∙ members_odd n low (half - 2 ^ (x - suc low)) ∙ ap (λ (ys : List ℕ). low ∷ ys) t.left;
    }

pub members_taken : (n low m : ℕ) → m < 2 ^ n → (i : ℕ) → i < length (members n low m) → IsTakenOut n low m i (members n low m)
members_taken = members_induction (λ n low m xs. (i : ℕ) → i < length xs → IsTakenOut n low m i xs) (λ low i l. absurd (omega arith))
    (λ n low h more i l. taken_even n low h i (members n (suc low) h) (more i l))
    (λ n low h more. taken_odd n low h (members n (suc low) h) refl more)

-- ---- the list rises
abbrev pub IsRisingFrom : ℕ → List ℕ → Type 0
IsRisingFrom low [] = Unit {0}
IsRisingFrom low (x ∷ xs) = (low ≤ x) × IsRisingFrom (suc x) xs

pub rising_weaker : (low : ℕ) (xs : List ℕ) → IsRisingFrom (suc low) xs → IsRisingFrom low xs
rising_weaker low [] h = tt
rising_weaker low (x ∷ xs) h = (omega (arith, h.0), h.1)

-- ---- the set is packed again
packed_cons : (low x : ℕ) (xs : List ℕ) → packed_from low (x ∷ xs) ≡ 2 ^ (x - low) + packed_from low xs
packed_cons low x xs = sum_by-cons (λ y. 2 ^ (y - low)) x xs

packed_double : (low up : ℕ) (xs : List ℕ) → suc low ≤ up → IsRisingFrom up xs → packed_from low xs ≡ 2 * packed_from (suc low) xs
packed_double low up [] l h = refl
packed_double low up (x ∷ xs) l h =
    omega (arith, packed_cons low x xs, packed_cons (suc low) x xs, double low x (omega (arith, h.0)), packed_double low (suc x) xs (omega (arith, h.0)) h.1)

pub members_packed : (n low m : ℕ) → m < 2 ^ n → IsRisingFrom low (members n low m) × (packed_from low (members n low m) ≡ m)
members_packed = members_induction (λ n low m xs. IsRisingFrom low xs × (packed_from low xs ≡ m)) (λ low. (tt, refl))
    (λ n low h rest. let xs = members n (suc low) h in (rising_weaker low xs rest.0, packed_double low (suc low) xs (omega arith) rest.0 ∙ ap (λ (k : ℕ). 2 * k) rest.1))
    (λ n low h rest. let xs = members n (suc low) h in ((omega arith, rest.0), omega (arith, packed_cons low low xs, one_bit low, packed_double low (suc low) xs (omega arith) rest.0, rest.1)))

-- ---- the same of 13 numbers
pub set_packed : (low set : ℕ) → set < 2 ^ 13 → packed_from low (members 13 low set) ≡ set
set_packed low set h = (members_packed 13 low set h).1

pub cards_packed : (hand : ℕ) → hand < 2 ^ 13 → packed (cards hand) ≡ hand
cards_packed hand h = set_packed 1 hand h

pub members_increase : (low set : ℕ) → IsStrictlyIncreasing (members 13 low set)
unfolding members
members_increase low set = IsStrictlyIncreasing-filter (λ number. eqb (bit_at set (number - low)) 1) (range_with_len low 13) (λ k l.
    let below : k + 1 < 13 = omega (arith, l, length-range_with_len low 13) in
    omega (arith, get_or-range_with_len low 13 k 0 (omega arith), get_or-range_with_len low 13 (k + 1) 0 below))

-- what holds of the number at place `i`, and of the set without it
pub record IsOut (low set i : ℕ) : Type 0 where
  pub first : low ≤ get_or (members 13 low set) i 0
  pub last : get_or (members 13 low set) i 0 < low + 13
  pub held : 2 ^ (get_or (members 13 low set) i 0 - low) ≤ set
  pub rest : packed_from low (remove (members 13 low set) i) ≡ set - 2 ^ (get_or (members 13 low set) i 0 - low)
  pub again : members 13 low (packed_from low (remove (members 13 low set) i)) ≡ remove (members 13 low set) i
  pub count : length (remove (members 13 low set) i) + 1 ≡ length (members 13 low set)
  pub small : packed_from low (remove (members 13 low set) i) < 2 ^ 13

pub taken_out : (low set i : ℕ) → set < 2 ^ 13 → i < length (members 13 low set) → IsOut low set i
taken_out low set i h place =
    let t = members_taken 13 low set h i place in
    let rest = set - 2 ^ (get_or (members 13 low set) i 0 - low) in
    let cleared : packed_from low (remove (members 13 low set) i) ≡ rest = subst (λ (xs : List ℕ). packed_from low xs ≡ rest) t.left (set_packed low rest (omega arith)) in
    record {
      first = t.first;
      last = t.last;
      held = t.held;
      rest = cleared;
      again = ap (members 13 low) cleared ∙ t.left;
      count = length-remove (members 13 low set) i place;
      small = omega (arith, cleared);
    }

pub card_bid : (hand i : ℕ) → hand < 2 ^ 13 → i < length (cards hand) → IsOut 1 hand i
card_bid hand i h place = taken_out 1 hand i h place

pub cards_hand : (hand : ℕ) → hand < 2 ^ 13 → All (λ card. (1 ≤ card) × (card ≤ 13)) (cards hand)
cards_hand hand h = All-from_get_or (λ card. (1 ≤ card) × (card ≤ 13)) (cards hand) 0 (λ i l. let bid = card_bid hand i h l in (bid.first, omega (arith, bid.last)))
