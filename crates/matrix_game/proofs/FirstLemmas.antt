-- The first place at which a function is least or greatest.
use Rattle.std.proofs.Common.{◌≡◌, ℕ, zero, suc, ◌+◌, ◌<◌, sym, refl, ap, ◌∙◌, arith, add-one, inl, inr, cond, ℤ, neg_ℤ, ◌<ℤ◌, ◌≤ℤ◌, int_lt}
use Rattle.std.proofs.lemmas.Int.{ints}
use Rattle.std.proofs.lemmas.Bool.{cases_lt, cond_both, cond-true, cond-false}
use Rattle.matrix_game.specs.Grid.{first_least, first_greatest}

pub first_least-below : (n : ℕ) (f : ℕ → ℤ) → 0 < n → first_least n f < n
first_least-below zero f h = absurd (omega arith)
first_least-below (suc zero) f h = cond_both (int_lt (f 0) (f 0)) 0 0 (λ k. k < 1) (λ e. omega arith) (λ e. omega arith)
first_least-below (suc (suc n)) f h =
    let i = first_least (suc n) f in
    let below = first_least-below (suc n) f (omega arith) in
    cond_both (int_lt (f (suc n)) (f i)) (suc n) i (λ k. k < suc (suc n)) (λ e. omega arith) (λ e. omega arith)

pub first_least-le : (n : ℕ) (f : ℕ → ℤ) (b : ℕ) → b < n → f (first_least n f) ≤ℤ f b
first_least-le zero f b h = absurd (omega arith)
first_least-le (suc n) f b h =
    let i = first_least n f in
    cond_both (int_lt (f n) (f i)) n i (λ k. f k ≤ℤ f b)
    (λ e. elim (cases_lt b n) [ inl l ↦ let s = first_least-le n f b l in omega (arith, ints) | inr l ↦ let s : b ≡ n = omega arith in let t = ap f s in omega (arith, ints) ])
    (λ e. elim (cases_lt b n) [ inl l ↦ first_least-le n f b l | inr l ↦ let s : b ≡ n = omega arith in let t = ap f s in omega (arith, ints) ])

pub first_least-one : (f : ℕ → ℤ) → first_least 1 f ≡ 0
first_least-one f = cond_both (int_lt (f 0) (f 0)) 0 0 (λ k. k ≡ 0) (λ e. refl) (λ e. refl)

first_least-more : (n : ℕ) (f : ℕ → ℤ) → first_least (n + 1) f ≡ cond (int_lt (f n) (f (first_least n f))) n (first_least n f)
first_least-more n f = ap (λ i. first_least i f) (add-one n)

pub first_least-takes : (n : ℕ) (f : ℕ → ℤ) → f n <ℤ f (first_least n f) → first_least (n + 1) f ≡ n
first_least-takes n f h = first_least-more n f ∙ cond-true _ n (first_least n f) (grind (arith, ints))

pub first_least-keeps : (n : ℕ) (f : ℕ → ℤ) → f (first_least n f) ≤ℤ f n → first_least (n + 1) f ≡ first_least n f
first_least-keeps n f h = first_least-more n f ∙ cond-false _ n (first_least n f) (grind (arith, ints))

same_least : (n : ℕ) (f g : ℕ → ℤ) → ((t : ℕ) → t < n → f t ≡ g t) → first_least n f ≡ first_least n g
same_least zero f g h = refl
same_least (suc zero) f g h = first_least-one f ∙ sym (first_least-one g)
same_least (suc (suc n)) f g h =
    let before = same_least (suc n) f g (λ t l. h t (omega arith)) in
    let i = first_least (suc n) g in
    let below = first_least-below (suc n) g (omega arith) in
    ap (λ k. cond (int_lt (f (suc n)) (f k)) (suc n) k) before
    ∙ ap (λ z. cond (int_lt (f (suc n)) z) (suc n) i) (h i (omega arith))
    ∙ ap (λ z. cond (int_lt z (g i)) (suc n) i) (h (suc n) (omega arith))

-- ---- the same of the greatest
pub first_greatest-below : (n : ℕ) (f : ℕ → ℤ) → 0 < n → first_greatest n f < n
first_greatest-below n f h = first_least-below n (λ i. neg_ℤ (f i)) h

pub first_greatest-le : (n : ℕ) (f : ℕ → ℤ) (b : ℕ) → b < n → f b ≤ℤ f (first_greatest n f)
first_greatest-le n f b h = let least = first_least-le n (λ i. neg_ℤ (f i)) b h in omega (arith, ints)

pub first_greatest-one : (f : ℕ → ℤ) → first_greatest 1 f ≡ 0
first_greatest-one f = first_least-one (λ i. neg_ℤ (f i))

pub first_greatest-takes : (n : ℕ) (f : ℕ → ℤ) → f (first_greatest n f) <ℤ f n → first_greatest (n + 1) f ≡ n
first_greatest-takes n f h = first_least-takes n (λ i. neg_ℤ (f i)) (omega (arith, ints))

pub first_greatest-keeps : (n : ℕ) (f : ℕ → ℤ) → f n ≤ℤ f (first_greatest n f) → first_greatest (n + 1) f ≡ first_greatest n f
first_greatest-keeps n f h = first_least-keeps n (λ i. neg_ℤ (f i)) (omega (arith, ints))

pub same_greatest : (n : ℕ) (f g : ℕ → ℤ) → ((t : ℕ) → t < n → f t ≡ g t) → first_greatest n f ≡ first_greatest n g
same_greatest n f g h = same_least n (λ i. neg_ℤ (f i)) (λ i. neg_ℤ (g i)) (λ t l. ap neg_ℤ (h t l))
