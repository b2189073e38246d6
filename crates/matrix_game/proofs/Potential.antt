-- The potential of regret matching plus: the sum of the squares of the regrets.
use Rattle.std.proofs.Common.{◌≡◌, ℕ, zero, suc, ◌+◌, ◌-◌, ◌*◌, ◌/◌, ◌%◌, ◌<◌, ◌≤◌, ap, ◌∙◌, arith, inl, inr}
use Rattle.std.proofs.Math.Nat.{mul-le-mul_left, mul-le-mul_right, div-add-mod', mod-lt, le_of_mul-le-mul_right, div-zero}
use Rattle.std.proofs.lemmas.Bool.{cases_lt}
use Rattle.sums.specs.Sums.{count_below}
use Rattle.sums.proofs.CountLemmas.{count_mono, count_same, count_add, count_times, count_constant, count_term, square_mono}

-- what the regret q of a row becomes, by the sign of what it gains and whether it falls to 0
rises : (q u d s : ℕ) → d ≤ s → (q + d) * (q + d) + 2 * (q * u) ≤ q * q + 2 * (q * (u + d)) + s * s
rises q u d s h = omega (arith, square_mono d s h)

falls : (c d x s : ℕ) → d ≤ s → c * c + 2 * ((c + d) * (x + d)) ≤ (c + d) * (c + d) + 2 * ((c + d) * x) + s * s
falls c d x s h = omega (arith, square_mono d s h)

vanishes : (q e x s : ℕ) → q + e ≤ s → 2 * (q * (x + (q + e))) ≤ q * q + 2 * (q * x) + s * s
vanishes q e x s h = omega (arith, square_mono (q + e) s h)

-- the same with differences
step_up : (q x u s : ℕ) → u ≤ x → x ≤ u + s → (q + x - u) * (q + x - u) + 2 * (q * u) ≤ q * q + 2 * (q * x) + s * s
step_up q x u s l h =
    let d = x - u in
    let e : x ≡ u + d = omega arith in
    let f : q + x - u ≡ q + d = omega arith in
    let r = rises q u d s (omega arith) in
    let m = ap (λ y. q * y) e in
    rw f (omega (arith, r, m))

step_down : (q x u s : ℕ) → x ≤ u → u ≤ q + x → u ≤ x + s → (q + x - u) * (q + x - u) + 2 * (q * u) ≤ q * q + 2 * (q * x) + s * s
step_down q x u s l k h =
    let d = u - x in
    let c = q + x - u in
    let e : u ≡ x + d = omega arith in
    let f : q ≡ c + d = omega arith in
    let r = falls c d x s (omega arith) in
    let m0 = ap (λ y. y * y) f in
    let m1 = ap (λ y. y * x) f in
    let m2 : q * u ≡ (c + d) * (x + d) = ap (λ y. y * u) f ∙ ap (λ y. (c + d) * y) e in
    omega (arith, r, m0, m1, m2)

step_out : (q x u s : ℕ) → q + x ≤ u → u ≤ x + s → (q + x - u) * (q + x - u) + 2 * (q * u) ≤ q * q + 2 * (q * x) + s * s
step_out q x u s l h =
    let e = u - x - q in
    let g : u ≡ x + (q + e) = omega arith in
    let f : q + x - u ≡ 0 = omega arith in
    let r = vanishes q e x s (omega arith) in
    let m = ap (λ y. q * y) g in
    rw f (omega (arith, r, m))

-- the square of a regret q that gains x and pays u, where x and u differ by at most s
pub step_of_row : (q x u s : ℕ) → x ≤ u + s → u ≤ x + s → (q + x - u) * (q + x - u) + 2 * (q * u) ≤ q * q + 2 * (q * x) + s * s
step_of_row q x u s h g =
    elim (cases_lt u x) [
      | inl l ↦ step_up q x u s (omega arith) h
      | inr l ↦ elim (cases_lt u (q + x)) [
        | inl k ↦ step_down q x u s l (omega arith) g
        | inr k ↦ step_out q x u s k g
      ]
    ]

-- ---- a mixture by shares, which gives what is missing to the first row
-- p has the shares f, and the first row the missing weight besides
pub record AddsToFirst (n missing : ℕ) (f p : ℕ → ℕ) : Type 0 where
  pub first : p 0 ≡ f 0 + missing
  pub others : (a : ℕ) → suc a < n → p (suc a) ≡ f (suc a)

pub paid_by_shares : (n missing : ℕ) (f p g : ℕ → ℕ) → AddsToFirst (suc n) missing f p → count_below (suc n) (λ a. p a * g a) ≡ count_below (suc n) (λ a. f a * g a) + missing * g 0
paid_by_shares zero missing f p g h = omega (arith, ap (λ y. y * g 0) h.first)
paid_by_shares (suc n) missing f p g h =
    let before = paid_by_shares n missing f p g (record { first = h.first; others = λ a l. h.others a (omega arith) }) in
    let last = ap (λ y. y * g (suc n)) (h.others n (omega arith)) in
    omega (arith, before, last)

pub weight_by_shares : (n missing : ℕ) (f p : ℕ → ℕ) → AddsToFirst (suc n) missing f p → count_below (suc n) p ≡ count_below (suc n) f + missing
weight_by_shares zero missing f p h = omega (arith, h.first)
weight_by_shares (suc n) missing f p h =
    let before = weight_by_shares n missing f p (record { first = h.first; others = λ a l. h.others a (omega arith) }) in
    omega (arith, before, h.others n (omega arith))

-- the shares in the regrets q, rounded down
abbrev pub share_of : ℕ → ℕ → (ℕ → ℕ) → ℕ → ℕ
share_of n w q a = w * q a / count_below n q

abbrev rest_of : ℕ → ℕ → (ℕ → ℕ) → ℕ → ℕ
rest_of n w q a = w * q a % count_below n q

shares_and_rests : (n w : ℕ) (q : ℕ → ℕ) → count_below n (share_of n w q) * count_below n q + count_below n (rest_of n w q) ≡ w * count_below n q
shares_and_rests n w q =
    let s = count_below n q in
    let split = count_same n (λ a. s * share_of n w q a + rest_of n w q a) (λ a. w * q a) (λ a l. omega (arith, div-add-mod' (w * q a) s)) in
    omega (arith, split, count_add n (λ a. s * share_of n w q a) (rest_of n w q), count_times n s (share_of n w q), count_times n w q)

pub shares-le : (n w : ℕ) (q : ℕ → ℕ) → count_below n (share_of n w q) ≤ w
shares-le n w q =
    elim (cases_lt 0 (count_below n q)) [
      | inl l ↦ le_of_mul-le-mul_right {k = count_below n q} (omega (arith, shares_and_rests n w q)) l
      | inr l ↦ let e : count_below n q ≡ 0 = omega arith in
          let z = count_same n (share_of n w q) (λ a. 0) (λ a k. ap (λ s. w * q a / s) e ∙ div-zero (w * q a)) in
          omega (arith, z, count_constant n 0)
    ]

pub rests_are_missing : (n w : ℕ) (q : ℕ → ℕ) → count_below n (rest_of n w q) ≡ (w - count_below n (share_of n w q)) * count_below n q
rests_are_missing n w q =
    let t = count_below n (share_of n w q) in
    let e : w ≡ t + (w - t) = omega (arith, shares-le n w q) in
    let m = ap (λ y. y * count_below n q) e in
    omega (arith, shares_and_rests n w q, m)

-- less is missing than there are rows
pub missing-le : (n w : ℕ) (q : ℕ → ℕ) → 0 < count_below n q → w - count_below n (share_of n w q) ≤ n
missing-le n w q l =
    let rests = count_mono n (rest_of n w q) (λ a. count_below n q) (λ a k. omega (arith, mod-lt (w * q a) l)) in
    le_of_mul-le-mul_right {k = count_below n q} (omega (arith, rests, count_constant n (count_below n q), rests_are_missing n w q)) l

-- no two rows differ by more than d in the column g
abbrev pub IsWithin : ℕ → ℕ → (ℕ → ℕ) → Type 0
IsWithin n d g = (a c : ℕ) → a < n → c < n → g a ≤ g c + d

-- what the shares leave out is paid at the first row's price, which is at most d off
cross_positive : (n w d : ℕ) (q p g : ℕ → ℕ) → AddsToFirst (suc n) (w - count_below (suc n) (share_of (suc n) w q)) (share_of (suc n) w q) p → IsWithin (suc n) d g → 0 < count_below (suc n) q
    → w * count_below (suc n) (λ a. q a * g a) ≤ count_below (suc n) q * count_below (suc n) (λ a. p a * g a) + suc n * (d * count_below (suc n) q)
cross_positive n w d q p g h within l =
    let m = suc n in
    let s = count_below m q in
    let f = share_of m w q in
    let r = rest_of m w q in
    let missing = w - count_below m f in
    let paid = ap (λ y. s * y) (paid_by_shares n missing f p g h) in
    let split = count_same m (λ a. s * (f a * g a) + r a * g a) (λ a. w * (q a * g a)) (λ a k. omega (arith, ap (λ y. y * g a) (div-add-mod' (w * q a) s))) in
    let added = count_add m (λ a. s * (f a * g a)) (λ a. r a * g a) in
    let by_shares = count_times m s (λ a. f a * g a) in
    let whole = count_times m w (λ a. q a * g a) in
    let rests = count_mono m (λ a. r a * g a) (λ a. (g 0 + d) * r a) (λ a k. omega (arith, mul-le-mul_left (r a) (within a 0 k (omega arith)))) in
    let price = count_times m (g 0 + d) r in
    let is_missing = ap (λ y. (g 0 + d) * y) (rests_are_missing m w q) in
    let few = mul-le-mul_right (d * s) (missing-le m w q l) in
    omega (arith, paid, split, added, by_shares, whole, rests, price, is_missing, few)

cross_zero : (n w d : ℕ) (q p g : ℕ → ℕ) → count_below n q ≤ 0 → w * count_below n (λ a. q a * g a) ≤ count_below n q * count_below n (λ a. p a * g a) + n * (d * count_below n q)
cross_zero n w d q p g l =
    let z = count_same n (λ a. q a * g a) (λ a. 0) (λ a k. let e : q a ≡ 0 = omega (arith, count_term n q a k) in omega (arith, ap (λ y. y * g a) e)) in
    let zero_sum : count_below n (λ a. q a * g a) ≡ 0 = omega (arith, z, count_constant n 0) in
    omega (arith, ap (λ y. w * y) zero_sum)

pub cross-le : (n w d : ℕ) (q p g : ℕ → ℕ) → AddsToFirst (suc n) (w - count_below (suc n) (share_of (suc n) w q)) (share_of (suc n) w q) p → IsWithin (suc n) d g
    → w * count_below (suc n) (λ a. q a * g a) ≤ count_below (suc n) q * count_below (suc n) (λ a. p a * g a) + suc n * (d * count_below (suc n) q)
cross-le n w d q p g h within =
    elim (cases_lt 0 (count_below (suc n) q)) [ inl l ↦ cross_positive n w d q p g h within l | inr l ↦ cross_zero (suc n) w d q p g l ]

-- what a mixture of weight w pays in a column is within w * d of w times each cell
pub paid_above : (n w d : ℕ) (p g : ℕ → ℕ) → count_below n p ≡ w → IsWithin n d g → (a : ℕ) → a < n → w * g a ≤ count_below n (λ c. p c * g c) + w * d
paid_above n w d p g e within a l =
    let bound = count_mono n (λ c. g a * p c) (λ c. p c * g c + d * p c) (λ c k. omega (arith, mul-le-mul_left (p c) (within a c l k))) in
    let left = count_times n (g a) p in
    let right = count_add n (λ c. p c * g c) (λ c. d * p c) in
    let more = count_times n d p in
    omega (arith, bound, left, right, more, ap (λ y. g a * y) e, ap (λ y. d * y) e)

pub paid_below : (n w d : ℕ) (p g : ℕ → ℕ) → count_below n p ≡ w → IsWithin n d g → (a : ℕ) → a < n → count_below n (λ c. p c * g c) ≤ w * g a + w * d
paid_below n w d p g e within a l =
    let bound = count_mono n (λ c. p c * g c) (λ c. (g a + d) * p c) (λ c k. omega (arith, mul-le-mul_left (p c) (within c a k l))) in
    let right = count_times n (g a + d) p in
    omega (arith, bound, right, ap (λ y. (g a + d) * y) e)

-- the regrets after a round in which the column g is the reply to p
abbrev pub next_regret : ℕ → ℕ → (ℕ → ℕ) → (ℕ → ℕ) → (ℕ → ℕ) → ℕ → ℕ
next_regret n w q p g a = q a + w * g a - count_below n (λ c. p c * g c)

abbrev pub squares : ℕ → (ℕ → ℕ) → ℕ
squares n q = count_below n (λ a. q a * q a)

-- the rows' steps summed
step_of_rows : (n w d : ℕ) (q p g : ℕ → ℕ) → count_below n p ≡ w → IsWithin n d g
    → squares n (next_regret n w q p g) + 2 * (count_below n q * count_below n (λ c. p c * g c)) ≤ squares n q + 2 * (w * count_below n (λ a. q a * g a)) + n * (w * d * (w * d))
step_of_rows n w d q p g e within =
    let u = count_below n (λ c. p c * g c) in
    let s = w * d in
    let r = next_regret n w q p g in
    let bound = count_mono n (λ a. r a * r a + 2 * u * q a) (λ a. q a * q a + (2 * w * (q a * g a) + s * s))
    (λ a l. let t = step_of_row (q a) (w * g a) u s (paid_above n w d p g e within a l) (paid_below n w d p g e within a l) in omega (arith, t)) in
    let left = count_add n (λ a. r a * r a) (λ a. 2 * u * q a) in
    let paid = count_times n (2 * u) q in
    let right = count_add n (λ a. q a * q a) (λ a. 2 * w * (q a * g a) + s * s) in
    let right2 = count_add n (λ a. 2 * w * (q a * g a)) (λ a. s * s) in
    let gained = count_times n (2 * w) (λ a. q a * g a) in
    let rest = count_constant n (s * s) in
    omega (arith, bound, left, paid, right, right2, gained, rest)

-- one round raises the potential by at most this
pub round-le : (n w d : ℕ) (q p g : ℕ → ℕ) → AddsToFirst (suc n) (w - count_below (suc n) (share_of (suc n) w q)) (share_of (suc n) w q) p → IsWithin (suc n) d g
    → squares (suc n) (next_regret (suc n) w q p g) ≤ squares (suc n) q + 2 * (suc n * (d * count_below (suc n) q)) + suc n * (w * d * (w * d))
round-le n w d q p g h within =
    let weight : count_below (suc n) p ≡ w = omega (arith, weight_by_shares n (w - count_below (suc n) (share_of (suc n) w q)) (share_of (suc n) w q) p h, shares-le (suc n) w q) in
    let step = step_of_rows (suc n) w d q p g weight within in
    let cross = cross-le n w d q p g h within in
    omega (arith, step, cross)
