-- How many sets there are.
use Rattle.std.specs.Prelude.{ℕ, zero, suc, ◌+◌}

-- how many sets of so many of n numbers
abbrev pub choose : ℕ → ℕ → ℕ
choose n zero = 1
choose zero (suc k) = 0
choose (suc n) (suc k) = choose n k + choose n (suc k)
