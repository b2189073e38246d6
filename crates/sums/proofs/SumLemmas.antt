-- Laws of sums of whole numbers over the numbers below a bound.
use Rattle.std.proofs.Common.{◌≡◌, ℕ, zero, suc, ◌+◌, ◌<◌, ℤ, pos, ◌+ℤ◌, ◌*ℤ◌, ◌≤ℤ◌, refl, sym, ap, ◌∙◌, arith, add-one}
use Rattle.std.proofs.lemmas.Int.{ints}
use Rattle.sums.specs.Sums.{sum_below, count_below}
use Rattle.sums.proofs.IntegerLemmas.{int_add_mono, int_le_refl, times_add, add_times}

pub sum_mono : (n : ℕ) (f g : ℕ → ℤ) → ((i : ℕ) → i < n → f i ≤ℤ g i) → sum_below n f ≤ℤ sum_below n g
sum_mono zero f g h = int_le_refl (pos 0)
sum_mono (suc n) f g h = int_add_mono _ _ _ _ (sum_mono n f g (λ i p. h i (omega arith))) (h n (omega arith))

pub sum_same : (n : ℕ) (f g : ℕ → ℤ) → ((i : ℕ) → i < n → f i ≡ g i) → sum_below n f ≡ sum_below n g
sum_same zero f g h = refl
sum_same (suc n) f g h = let front = sum_same n f g (λ i p. h i (omega arith)) in let last = h n (omega arith) in cc

pub sum_add : (n : ℕ) (f g : ℕ → ℤ) → sum_below n (λ i. f i +ℤ g i) ≡ sum_below n f +ℤ sum_below n g
sum_add zero f g = refl
sum_add (suc n) f g = omega (arith, ints, sum_add n f g)

pub sum_times : (n k : ℕ) (f : ℕ → ℤ) → sum_below n (λ i. pos k *ℤ f i) ≡ pos k *ℤ sum_below n f
sum_times zero k f = omega (arith, ints)
sum_times (suc n) k f = ap (λ x. x +ℤ pos k *ℤ f n) (sum_times n k f) ∙ sym (times_add k (sum_below n f) (f n))

pub sum_none : (n : ℕ) → sum_below n (λ _. pos 0) ≡ pos 0
sum_none zero = refl
sum_none (suc n) = omega (arith, ints, sum_none n)

pub sum_exchange : (n m : ℕ) (f : ℕ → ℕ → ℤ) → sum_below n (λ i. sum_below m (f i)) ≡ sum_below m (λ j. sum_below n (λ i. f i j))
sum_exchange zero m f = sym (sum_none m)
sum_exchange (suc n) m f = ap (λ x. x +ℤ sum_below m (f n)) (sum_exchange n m f) ∙ sym (sum_add m (λ j. sum_below n (λ i. f i j)) (f n))

-- the first number apart
pub sum_first : (n : ℕ) (f : ℕ → ℤ) → sum_below (suc n) f ≡ f 0 +ℤ sum_below n (λ i. f (suc i))
sum_first zero f = omega (arith, ints)
sum_first (suc n) f = omega (arith, ints, sum_first n f)

-- a sum of one number by weights
pub sum_weights : (n : ℕ) (w : ℕ → ℕ) (x : ℤ) → sum_below n (λ i. pos (w i) *ℤ x) ≡ pos (count_below n w) *ℤ x
sum_weights zero w x = omega (arith, ints)
sum_weights (suc n) w x = ap (λ y. y +ℤ pos (w n) *ℤ x) (sum_weights n w x) ∙ sym (add_times (count_below n w) (w n) x)

-- one more number, at the next index of a loop
pub sum_more : (n : ℕ) (f : ℕ → ℤ) → sum_below (n + 1) f ≡ sum_below n f +ℤ f n
sum_more n f = ap (λ i. sum_below i f) (add-one n)
