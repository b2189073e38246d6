-- Sums of signed numbers, read as sums of natural numbers that are all raised by one shift.
use Rattle.std.proofs.Common.{◌≡◌, ℕ, zero, suc, ◌+◌, ◌-◌, ◌*◌, ◌<◌, ap, arith, ℤ, pos, negsuc, ◌+ℤ◌, ◌-ℤ◌, ◌*ℤ◌}
use Rattle.std.proofs.lemmas.Int.{ints}
use borrow.Author.Differences.{up, down}
use Rattle.sums.specs.Sums.{count_below}
use Rattle.sums.specs.Sums.{sum_below}
use Rattle.matrix_game.specs.Rounds.{positive_part}

-- z is e - c
abbrev pub IsLifted : ℕ → ℤ → ℕ → Type 0
IsLifted c z e = up z + c ≡ e + down z

pub lifted_sum : (n c : ℕ) (p : ℕ → ℕ) (z : ℕ → ℤ) (e : ℕ → ℕ) → ((a : ℕ) → a < n → IsLifted c (z a) (e a))
    → IsLifted (c * count_below n p) (sum_below n (λ a. pos (p a) *ℤ z a)) (count_below n (λ a. p a * e a))
lifted_sum zero c p z e h = omega arith
lifted_sum (suc n) c p z e h =
    omega (arith, ints, lifted_sum n c p z e (λ a l. h a (omega arith)), ap (λ y. p n * y) (h n (omega arith)))

pub positive_part_is : (z : ℤ) → positive_part z ≡ up z - down z
positive_part_is (pos n) = omega arith
positive_part_is (negsuc n) = omega arith

-- a regret's new value, over lifted cells
pub positive_part-lifted : (q w c : ℕ) (z s : ℤ) (e u : ℕ) → IsLifted c z e → IsLifted (c * w) s u → positive_part (pos q +ℤ (pos w *ℤ z -ℤ s)) ≡ q + w * e - u
positive_part-lifted q w c z s e u hz hs =
    omega (arith, ints, positive_part_is (pos q +ℤ (pos w *ℤ z -ℤ s)), ap (λ y. w * y) hz, hs)
