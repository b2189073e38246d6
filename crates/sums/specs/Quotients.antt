-- Quotients by a positive number, as whole numbers.
use Rattle.std.specs.Prelude.{ℕ, ℤ, pos, neg_ℤ}
use Rattle.std.specs.Int.{int_div_euclid}

-- rounded down
abbrev pub floor_quotient : ℕ → ℤ → ℤ
floor_quotient k x = int_div_euclid x (pos k)

-- rounded up
abbrev pub ceiling_quotient : ℕ → ℤ → ℤ
ceiling_quotient k x = neg_ℤ (int_div_euclid (neg_ℤ x) (pos k))
