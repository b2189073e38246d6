-- What holds of the numbers below a number.
use Rattle.std.proofs.Common.{◌≡◌, ℕ, zero, suc, ◌+◌, ◌<◌, ◌≤◌, ℤ, Bool, true, false, Option, None, Some, refl, ap, ◌∙◌, ◌⊎◌, inl, inr, arith, add-one}
use Rattle.std.proofs.lemmas.Bool.{and_from, and_left, and_parts, and_right, cases_lt}
use Rattle.std.specs.Option.{option_or}
use Rattle.sim_game.specs.declared.Side.{Side}
use Rattle.sim_game.specs.Sides.{other_side, better, IsNoTighter}
use Rattle.sim_game.proofs.SideLemmas.{better_cases, better_left, better_right, flip_side, looser_refl, looser_trans}
use Rattle.table.specs.Below.{all_below, first_below, highest_below, worst_upto}

-- ---- tests
pub all_at : (n : ℕ) (p : ℕ → Bool) (k : ℕ) → all_below n p ≡ true → k < n → p k ≡ true
all_at zero p k h below = absurd (omega arith)
all_at (suc n) p k h below =
    let both = and_parts (all_below n p) (p n) h in
    elim (cases_lt k n) [
      | inl earlier ↦ all_at n p k both.0 earlier
      | inr last ↦ let same : k ≡ n = omega arith in rw same both.1
    ]

pub all_more : (n : ℕ) (p : ℕ → Bool) → all_below n p ≡ true → p n ≡ true → all_below (n + 1) p ≡ true
all_more n p before here = ap (λ (k : ℕ). all_below k p) (add-one n) ∙ and_from (all_below n p) (p n) before here

pub not_all : (n : ℕ) (p : ℕ → Bool) (k : ℕ) → k < n → p k ≡ false → all_below n p ≡ false
not_all zero p k below h = absurd (omega arith)
not_all (suc n) p k below h = elim (cases_lt k n) [
  | inl earlier ↦ and_left (all_below n p) (p n) (not_all n p k earlier h)
  | inr last ↦ let same : k ≡ n = omega arith in and_right (all_below n p) (p n) (rw same at h)
]

pub all_from : (n : ℕ) (p : ℕ → Bool) → ((k : ℕ) → k < n → p k ≡ true) → all_below n p ≡ true
all_from zero p h = refl
all_from (suc n) p h = and_from (all_below n p) (p n) (all_from n p (λ k below. h k (omega arith))) (h n (omega arith))

-- ---- the greatest
pub greatest_at : (n : ℕ) (f : ℕ → ℕ) (i : ℕ) → i < n → f i ≤ highest_below n f
greatest_at zero f i h = absurd (omega arith)
greatest_at (suc n) f i h = elim (cases_lt i n) [
  | inl earlier ↦ omega (arith, greatest_at n f i earlier)
  | inr last ↦ let same : i ≡ n = omega arith in rw same (omega arith)
]

pub greatest_high : (n top : ℕ) (f : ℕ → ℕ) → ((i : ℕ) → i < n → f i ≤ top) → highest_below n f ≤ top
greatest_high zero top f h = omega arith
greatest_high (suc n) top f h = omega (arith, h n (omega arith), greatest_high n top f (λ i below. h i (omega arith)))

-- ---- the worst for a side
pub worst_at : (side : Side) (last : ℕ) (f : ℕ → ℤ) (i : ℕ) → i ≤ last → IsNoTighter side (worst_upto side last f) (f i)
worst_at side zero f i h = let first : i ≡ 0 = omega arith in rw first (looser_refl side (f 0))
worst_at side (suc last) f i h = elim (cases_lt i (suc last)) [
  | inl earlier ↦ looser_trans side _ _ _ (flip_side side _ _ (better_left (other_side side) (worst_upto side last f) (f (suc last)))) (worst_at side last f i (omega arith))
  | inr end ↦ let same : i ≡ suc last = omega arith in rw same (flip_side side _ _ (better_right (other_side side) (worst_upto side last f) (f (suc last))))
]

pub worst_found : (side : Side) (last : ℕ) (f : ℕ → ℤ) → (i : ℕ) × (i ≤ last) × (worst_upto side last f ≡ f i)
worst_found side zero f = (0, omega arith, refl)
worst_found side (suc last) f = elim (better_cases (other_side side) (worst_upto side last f) (f (suc last))) [
  | inl before ↦ let found = worst_found side last f in (found.0, omega (arith, found.1), before ∙ found.2)
  | inr here ↦ (suc last, omega arith, here)
]

pub worst_same : (side : Side) (last : ℕ) (f g : ℕ → ℤ) → ((i : ℕ) → i ≤ last → f i ≡ g i) → worst_upto side last f ≡ worst_upto side last g
worst_same side zero f g h = h 0 (omega arith)
worst_same side (suc last) f g h =
    ap (λ (x : ℤ). better (other_side side) x (f (suc last))) (worst_same side last f g (λ i le. h i (omega arith)))
    ∙ ap (better (other_side side) (worst_upto side last g)) (h (suc last) (omega arith))

-- ---- the first that there is
pub or_none : {T : Type 0} (a b : Option T) → option_or a b ≡ None → (a ≡ None) × (b ≡ None)
or_none None b h = (refl, h)
or_none (Some x) b h = absurd (cc)

pub or_there : {T : Type 0} (a b : Option T) (x : T) → option_or a b ≡ Some x → (a ≡ Some x) ⊎ (b ≡ Some x)
or_there None b x h = inr h
or_there (Some y) b x h = inl h

pub none_at : {T : Type 0} (n : ℕ) (f : ℕ → Option T) (k : ℕ) → first_below n f ≡ None → k < n → f k ≡ None
none_at zero f k h below = absurd (omega arith)
none_at (suc n) f k h below =
    let both = or_none (first_below n f) (f n) h in
    elim (cases_lt k n) [
      | inl earlier ↦ none_at n f k both.0 earlier
      | inr last ↦ let same : k ≡ n = omega arith in rw same both.1
    ]

pub none_below : {T : Type 0} (n : ℕ) (f : ℕ → Option T) → ((k : ℕ) → k < n → f k ≡ None) → first_below n f ≡ None
none_below zero f h = refl
none_below (suc n) f h = rw (none_below n f (λ k below. h k (omega arith))) (h n (omega arith))

pub found_at : {T : Type 0} (n : ℕ) (f : ℕ → Option T) (i : ℕ) (x : T) → ((k : ℕ) → k < i → f k ≡ None) → i < n → f i ≡ Some x → first_below n f ≡ Some x
found_at zero f i x before below h = absurd (omega arith)
found_at (suc n) f i x before below h = elim (cases_lt i n) [
  | inl earlier ↦ rw (found_at n f i x before earlier h) refl
  | inr last ↦ let same : i ≡ n = omega arith in rw (none_below n f (λ k l. before k (omega arith))) (rw same at h)
]
