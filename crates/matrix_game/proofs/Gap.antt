-- From the potential to the gap between the best mixture and the counts of the replies.
use Rattle.std.proofs.Common.{◌≡◌, ℕ, zero, suc, ◌+◌, ◌-◌, ◌*◌, ◌<◌, ◌≤◌, cond, eqb, sym, refl, ap, ◌∙◌, arith, inl, inr}
use Rattle.std.proofs.Math.Nat.{mul-le-mul, mul-le-mul_left, mul-le-mul_right, le_of_mul-le-mul_left, le_of_mul-le-mul_right}
use Rattle.std.proofs.lemmas.Bool.{cases_lt, eq-eqb, ne_eqb}
use Rattle.sums.specs.Sums.{count_below}
use Rattle.sums.proofs.CountLemmas.{count_mono, count_same, count_times, count_constant, count_term, count_exchange, count_squares, square_mono, square_cancel}
use Rattle.matrix_game.proofs.Potential.{AddsToFirst, IsWithin, share_of, next_regret, squares, round-le}

-- while the potential is small, so is the sum of the regrets
regrets-le : (n w d t : ℕ) (q : ℕ → ℕ) → 8 * (n * n) ≤ w → t ≤ w → squares n q ≤ 2 * n * (w * w) * (d * d) * t → 2 * count_below n q ≤ w * w * d
regrets-le n w d t q large early small =
    let s = count_below n q in
    let c = count_squares n q in
    let b1 = mul-le-mul_left n small in
    let b2 = mul-le-mul_left (n * (2 * n * (w * w) * (d * d))) early in
    let b3 = mul-le-mul_right (w * w * w * (d * d)) large in
    square_cancel (2 * s) (w * w * d) (omega (arith, c, b1, b2, b3))

-- w rounds of regret matching plus over n rows: the regrets q, mixtures p and columns g of the replies by round
pub record IsRun (n w d : ℕ) (q p g : ℕ → ℕ → ℕ) : Type 0 where
  pub starts : (a : ℕ) → a < n → q 0 a ≡ 0
  pub steps : (t a : ℕ) → t < w → a < n → q (suc t) a ≡ next_regret n w (q t) (p t) (g t) a
  pub mixes : (t : ℕ) → t < w → AddsToFirst n (w - count_below n (share_of n w (q t))) (share_of n w (q t)) (p t)
  pub within : (t : ℕ) → t < w → IsWithin n d (g t)

-- the potential grows at most linearly
pub potential-le : (n w d : ℕ) (q p g : ℕ → ℕ → ℕ) → IsRun (suc n) w d q p g → 8 * (suc n * suc n) ≤ w → (t : ℕ) → t ≤ w → squares (suc n) (q t) ≤ 2 * suc n * (w * w) * (d * d) * t
potential-le n w d q p g run large zero l =
    let z = count_same (suc n) (λ a. q 0 a * q 0 a) (λ a. 0) (λ a k. let e = run.starts a k in omega (arith, ap (λ y. y * q 0 a) e)) in
    omega (arith, z, count_constant (suc n) 0)
potential-le n w d q p g run large (suc t) l =
    let m = suc n in
    let before = potential-le n w d q p g run large t (omega arith) in
    let small = regrets-le m w d t (q t) large (omega arith) before in
    let step = round-le n w d (q t) (p t) (g t) (run.mixes t (omega arith)) (run.within t (omega arith)) in
    let r = next_regret m w (q t) (p t) (g t) in
    let same = count_same m (λ a. q (suc t) a * q (suc t) a) (λ a. r a * r a) (λ a k. let e = run.steps t a (omega arith) k in ap (λ y. y * y) e) in
    let cross = mul-le-mul_left (m * d) small in
    omega (arith, before, step, same, cross)

-- what a mixture pays in its round
abbrev pub paid_of : ℕ → (ℕ → ℕ → ℕ) → (ℕ → ℕ → ℕ) → ℕ → ℕ
paid_of n p g t = count_below n (λ c. p t c * g t c)

-- a row's regret is at least what it would have gained in all rounds
regret-ge : (n w d : ℕ) (q p g : ℕ → ℕ → ℕ) → IsRun n w d q p g → (a : ℕ) → a < n → (t : ℕ) → t ≤ w → w * count_below t (λ s. g s a) ≤ q t a + count_below t (paid_of n p g)
regret-ge n w d q p g run a l zero h = omega arith
regret-ge n w d q p g run a l (suc t) h = omega (arith, regret-ge n w d q p g run a l t (omega arith), run.steps t a (omega arith) l)

-- the gap of a row to the best payment
pub row_gap-le : (n w d low : ℕ) (q p g : ℕ → ℕ → ℕ) → IsRun (suc n) w d q p g → 8 * (suc n * suc n) ≤ w → ((t : ℕ) → t < w → paid_of (suc n) p g t ≤ low)
    → (a : ℕ) → a < suc n → (count_below w (λ s. g s a) - low) * (count_below w (λ s. g s a) - low) ≤ 2 * (suc n * (w * (d * d)))
row_gap-le n w d low q p g run large best a l =
    let m = suc n in
    let sum = count_below w (λ s. g s a) in
    let x = sum - low in
    let y = q w a in
    let gained = regret-ge m w d q p g run a l w (omega arith) in
    let paid = count_mono w (paid_of m p g) (λ t. low) best in
    let all = count_constant w low in
    let e = mul-le-mul_left {m = sum} {n = sum - low + low} w (omega arith) in
    let wx : w * x ≤ y = elim (cases_lt low sum) [
      | inl k ↦ let e2 : sum ≡ x + low = omega arith in omega (arith, gained, paid, all, ap (λ z. w * z) e2)
      | inr k ↦ let e3 : x ≡ 0 = omega arith in omega (arith, ap (λ z. w * z) e3)
    ] in
    let sq = square_mono (w * x) y wx in
    let term = count_term m (λ c. q w c * q w c) a l in
    let pot = potential-le n w d q p g run large w (omega arith) in
    let big = mul-le-mul {n₁ = 1} {m₁ = 1} {n₂ = m} {m₂ = m} (omega arith) (omega arith) in
    let positive : 0 < w * w = let w1 : 1 ≤ w = omega (arith, large, big) in let ww = mul-le-mul w1 w1 in omega (arith, ww) in
    le_of_mul-le-mul_left {k = w * w} (omega (arith, sq, term, pot)) positive

-- ---- the replies counted
-- 1 where the numbers are equal
abbrev pub is_equal : ℕ → ℕ → ℕ
is_equal j b = cond (eqb j b) 1 0

pub is_equal-same : (j b : ℕ) → j ≡ b → is_equal j b ≡ 1
is_equal-same j b e = ap (λ t. cond t 1 0) (eq-eqb j b e)

pub is_equal-other : (j b : ℕ) → (j ≡ b → ⊥) → is_equal j b ≡ 0
is_equal-other j b e = ap (λ t. cond t 1 0) (ne_eqb j b e)

picks_none : (k j : ℕ) (g : ℕ → ℕ) → k ≤ j → count_below k (λ b. is_equal j b * g b) ≡ 0
picks_none zero j g h = refl
picks_none (suc k) j g h = omega (arith, picks_none k j g (omega arith), ap (λ y. y * g k) (is_equal-other j k (λ e. omega arith)))

pub picks_one : (k j : ℕ) (g : ℕ → ℕ) → j < k → count_below k (λ b. is_equal j b * g b) ≡ g j
picks_one zero j g h = absurd (omega arith)
picks_one (suc k) j g h =
    elim (cases_lt j k) [
      | inl l ↦ omega (arith, picks_one k j g l, ap (λ y. y * g k) (is_equal-other j k (λ e. omega arith)))
      | inr l ↦ let e : j ≡ k = omega arith in omega (arith, picks_none k j g (omega arith), ap (λ y. y * g k) (is_equal-same j k e), ap g e)
    ]

-- how many of the first n numbers are b
abbrev pub count_of : ℕ → (ℕ → ℕ) → ℕ → ℕ
count_of n j b = count_below n (λ t. is_equal (j t) b)

-- a sum over the rounds is the sum over the columns by their counts
pub sum_by_counts : (n k : ℕ) (j g : ℕ → ℕ) → ((t : ℕ) → t < n → j t < k) → count_below n (λ t. g (j t)) ≡ count_below k (λ b. count_of n j b * g b)
sum_by_counts n k j g h =
    let picked = count_same n (λ t. g (j t)) (λ t. count_below k (λ b. is_equal (j t) b * g b)) (λ t l. sym (picks_one k (j t) g (h t l))) in
    let swapped = count_exchange n k (λ t b. is_equal (j t) b * g b) in
    let counted = count_same k (λ b. count_below n (λ t. is_equal (j t) b * g b)) (λ b. count_of n j b * g b)
    (λ b l. count_same n (λ t. is_equal (j t) b * g b) (λ t. g b * is_equal (j t) b) (λ t k. omega arith) ∙ count_times n (g b) (λ t. is_equal (j t) b) ∙ omega arith) in
    picked ∙ swapped ∙ counted

-- weak duality: what the weights p secure is at most what the weights v concede
pub weak_duality : (n k w low high : ℕ) (p v : ℕ → ℕ) (e : ℕ → ℕ → ℕ) → count_below n p ≡ w → count_below k v ≡ w → 0 < w
    → ((b : ℕ) → b < k → low ≤ count_below n (λ a. p a * e a b)) → ((a : ℕ) → a < n → count_below k (λ b. v b * e a b) ≤ high) → low ≤ high
weak_duality n k w low high p v e wp wv positive lows highs =
    let below = count_mono k (λ b. low * v b) (λ b. count_below n (λ a. v b * (p a * e a b)))
    (λ b l. omega (arith, mul-le-mul_left (v b) (lows b l), count_times n (v b) (λ a. p a * e a b))) in
    let above = count_mono n (λ a. count_below k (λ b. v b * (p a * e a b))) (λ a. high * p a)
    (λ a l. let same = count_same k (λ b. v b * (p a * e a b)) (λ b. p a * (v b * e a b)) (λ b l. omega arith) in
    omega (arith, mul-le-mul_left (p a) (highs a l), count_times k (p a) (λ b. v b * e a b), same)) in
    let swapped = count_exchange n k (λ a b. v b * (p a * e a b)) in
    let left = count_times k low v in
    let right = count_times n high p in
    le_of_mul-le-mul_right {k = w} (omega (arith, below, above, swapped, left, right, ap (λ y. low * y) wv, ap (λ y. high * y) wp)) positive
