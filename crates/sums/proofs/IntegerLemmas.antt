-- Products of whole numbers by natural numbers, and quotients.
use Rattle.std.proofs.Common.{◌≡◌, ℕ, suc, ◌+◌, ◌*◌, ◌<◌, ◌≤◌, ℤ, pos, negsuc, neg_ℤ, ◌+ℤ◌, ◌*ℤ◌, ◌≤ℤ◌, ap, arith}
use borrow.Author.Differences.{up, down, sum_is_lem, product_is, le_out, at_most_in}
use Rattle.std.proofs.Math.Nat.{mul-le-mul_left, le_of_mul-le-mul_left, mul-div-le, le-div_iff_mul-le, div-lt_iff_lt-mul}
use Rattle.std.proofs.lemmas.Int.{ints}
use Rattle.sums.specs.Quotients.{floor_quotient, ceiling_quotient}

pub int_le_trans : (x y z : ℤ) → x ≤ℤ y → y ≤ℤ z → x ≤ℤ z
int_le_trans x y z p q = omega (arith, ints)

pub int_le_refl : (x : ℤ) → x ≤ℤ x
int_le_refl x = omega (arith, ints)

pub int_add_mono : (a b c d : ℤ) → a ≤ℤ b → c ≤ℤ d → (a +ℤ c) ≤ℤ (b +ℤ d)
int_add_mono a b c d p q = omega (arith, ints)

pub times_add : (k : ℕ) (x y : ℤ) → pos k *ℤ (x +ℤ y) ≡ pos k *ℤ x +ℤ pos k *ℤ y
times_add k x y = omega (arith, ints, ap (λ n. k * n) (sum_is_lem x y))

pub add_times : (j k : ℕ) (x : ℤ) → pos (j + k) *ℤ x ≡ pos j *ℤ x +ℤ pos k *ℤ x
add_times j k x = omega (arith, ints)

pub times_times : (j k : ℕ) (x : ℤ) → pos j *ℤ (pos k *ℤ x) ≡ pos (j * k) *ℤ x
times_times j k x = omega (arith, ints, ap (λ n. j * n) (product_is (pos k) x).0, ap (λ n. j * n) (product_is (pos k) x).1)

pub times_mono : (k : ℕ) (x y : ℤ) → x ≤ℤ y → (pos k *ℤ x) ≤ℤ (pos k *ℤ y)
times_mono k x y h = omega (arith, ints, mul-le-mul_left k (le_out x y h))

pub times_cancel : (k : ℕ) (x y : ℤ) → 0 < k → (pos k *ℤ x) ≤ℤ (pos k *ℤ y) → x ≤ℤ y
times_cancel k x y p h =
    let products : k * (up x + down y) ≤ k * (up y + down x) = omega (arith, ints) in
    at_most_in x y (le_of_mul-le-mul_left products p)

-- the quotient rounded down, times the divisor, is at most the number
pub times_floor : (k : ℕ) (x : ℤ) → 0 < k → (pos k *ℤ floor_quotient k x) ≤ℤ x
times_floor k (pos n) p = omega (arith, ints, mul-div-le n k)
times_floor k (negsuc n) p = omega (arith, ints)

-- each number whose product by the divisor is at most the number is at most the quotient rounded down
pub floor_greatest : (k : ℕ) (x y : ℤ) → 0 < k → (pos k *ℤ y) ≤ℤ x → y ≤ℤ floor_quotient k x
floor_greatest k (pos n) (pos m) p h = omega (arith, ints, (le-div_iff_mul-le {x = m} {y = n} p).1)
floor_greatest k (pos n) (negsuc m) p h = omega (arith, ints)
floor_greatest k (negsuc n) (pos m) p h = absurd (omega (arith, ints))
floor_greatest k (negsuc n) (negsuc m) p h =
    let below : n < suc m * k = omega (arith, ints) in
    omega (arith, ints, (div-lt_iff_lt-mul {x = n} {y = suc m} p).1 below)

pub times_negated : (k : ℕ) (x : ℤ) → pos k *ℤ neg_ℤ x ≡ neg_ℤ (pos k *ℤ x)
times_negated k x =
    let none : x +ℤ neg_ℤ x ≡ pos 0 = omega (arith, ints) in
    let product : pos k *ℤ (x +ℤ neg_ℤ x) ≡ pos k *ℤ pos 0 = ap (λ y. pos k *ℤ y) none in
    omega (arith, ints, product, times_add k x (neg_ℤ x))

-- the mirror: the quotient rounded up
pub times_ceiling : (k : ℕ) (x : ℤ) → 0 < k → x ≤ℤ (pos k *ℤ ceiling_quotient k x)
times_ceiling k x p = omega (arith, ints, times_floor k (neg_ℤ x) p, times_negated k (floor_quotient k (neg_ℤ x)))

pub ceiling_least : (k : ℕ) (x y : ℤ) → 0 < k → x ≤ℤ (pos k *ℤ y) → ceiling_quotient k x ≤ℤ y
ceiling_least k x y p h =
    let mirrored : (pos k *ℤ neg_ℤ y) ≤ℤ neg_ℤ x = omega (arith, ints, times_negated k y) in
    omega (arith, ints, floor_greatest k (neg_ℤ x) (neg_ℤ y) p mirrored)
