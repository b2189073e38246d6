-- Laws of sums of natural numbers over the numbers below a bound, and of squares.
use Rattle.std.proofs.Common.{◌≡◌, ℕ, zero, suc, ◌+◌, ◌-◌, ◌*◌, ◌<◌, ◌≤◌, List, ◌∷◌, length, get_or, sum, sym, refl, ap, ◌∙◌, arith, add-one, inl, inr}
use Rattle.std.proofs.Math.Nat.{mul-le-mul}
use Rattle.std.proofs.lemmas.Bool.{cases_lt}
use Rattle.std.proofs.lemmas.List.Recursion.{is_sum_by}
use Rattle.sums.specs.Sums.{count_below}

pub count_mono : (n : ℕ) (f g : ℕ → ℕ) → ((a : ℕ) → a < n → f a ≤ g a) → count_below n f ≤ count_below n g
count_mono zero f g h = omega arith
count_mono (suc n) f g h = omega (arith, count_mono n f g (λ a l. h a (omega arith)), h n (omega arith))

pub count_same : (n : ℕ) (f g : ℕ → ℕ) → ((a : ℕ) → a < n → f a ≡ g a) → count_below n f ≡ count_below n g
count_same zero f g h = refl
count_same (suc n) f g h = omega (arith, count_same n f g (λ a l. h a (omega arith)), h n (omega arith))

pub count_add : (n : ℕ) (f g : ℕ → ℕ) → count_below n (λ a. f a + g a) ≡ count_below n f + count_below n g
count_add zero f g = refl
count_add (suc n) f g = omega (arith, count_add n f g)

pub count_times : (n c : ℕ) (f : ℕ → ℕ) → count_below n (λ a. c * f a) ≡ c * count_below n f
count_times zero c f = omega arith
count_times (suc n) c f = omega (arith, count_times n c f)

pub count_constant : (n c : ℕ) → count_below n (λ a. c) ≡ n * c
count_constant zero c = omega arith
count_constant (suc n) c = omega (arith, count_constant n c)

pub count_term : (n : ℕ) (f : ℕ → ℕ) (a : ℕ) → a < n → f a ≤ count_below n f
count_term zero f a h = absurd (omega arith)
count_term (suc n) f a h =
    elim (cases_lt a n) [
      | inl l ↦ omega (arith, count_term n f a l)
      | inr l ↦ let e : a ≡ n = omega arith in omega (arith, ap f e)
    ]

-- a sum by rows is the sum by columns
pub count_exchange : (n k : ℕ) (f : ℕ → ℕ → ℕ) → count_below n (λ a. count_below k (f a)) ≡ count_below k (λ b. count_below n (λ a. f a b))
count_exchange zero k f = sym (count_constant k 0 ∙ omega arith)
count_exchange (suc n) k f = ap (λ x. x + count_below k (f n)) (count_exchange n k f) ∙ sym (count_add k (λ b. count_below n (λ a. f a b)) (f n))

twice_product_from : (x d : ℕ) → 2 * (x * (x + d)) ≤ x * x + (x + d) * (x + d)
twice_product_from x d = omega arith

twice_product : (x y : ℕ) → 2 * (x * y) ≤ x * x + y * y
twice_product x y =
    elim (cases_lt x y) [
      | inl l ↦ let e : y ≡ x + (y - x) = omega arith in rw e (twice_product_from x (y - x))
      | inr l ↦ let e : x ≡ y + (x - y) = omega arith in rw e (let s = twice_product_from y (x - y) in omega (arith, s))
    ]

twice_count_below : (n : ℕ) (f : ℕ → ℕ) (x : ℕ) → 2 * (count_below n f * x) ≤ count_below n (λ a. f a * f a) + n * (x * x)
twice_count_below zero f x = omega arith
twice_count_below (suc n) f x = omega (arith, twice_count_below n f x, twice_product (f n) x)

-- the inequality of Cauchy and Schwarz
pub count_squares : (n : ℕ) (f : ℕ → ℕ) → count_below n f * count_below n f ≤ n * count_below n (λ a. f a * f a)
count_squares zero f = omega arith
count_squares (suc n) f = omega (arith, count_squares n f, twice_count_below n f (f n))

-- a square is monotone, and so is its root
pub square_mono : (x y : ℕ) → x ≤ y → x * x ≤ y * y
square_mono x y h = mul-le-mul h h

pub square_cancel : (x y : ℕ) → x * x ≤ y * y → x ≤ y
square_cancel x y h =
    elim (cases_lt y x) [
      | inl l ↦ let k : y + 1 ≤ x = omega arith in let s : (y + 1) * (y + 1) ≤ x * x = mul-le-mul k k in absurd (omega arith)
      | inr l ↦ l
    ]

-- the first number apart
pub count_first : (n : ℕ) (f : ℕ → ℕ) → count_below (suc n) f ≡ f 0 + count_below n (λ i. f (suc i))
count_first zero f = omega arith
count_first (suc n) f = omega (arith, count_first n f)

-- the numbers of a list
pub count_list : (xs : List ℕ) → count_below (length xs) (λ i. get_or xs i 0) ≡ sum xs
count_list xs = is_sum_by (λ ys. count_below (length ys) (λ i. get_or ys i 0)) (λ x. x) refl (λ y ys. count_first (length ys) (λ i. get_or (y ∷ ys) i 0)) xs

-- one more number, at the next index of a loop
pub count_more : (n : ℕ) (f : ℕ → ℕ) → count_below (n + 1) f ≡ count_below n f + f n
count_more n f = ap (λ i. count_below i f) (add-one n)
