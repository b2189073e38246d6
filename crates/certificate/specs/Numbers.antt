-- Numbers as a report spells them: just as they are written.
use Rattle.std.specs.Prelude.{ℕ, ◌^◌, ℤ, ◌&&◌, ◌||◌, List, bytes_eq, nat_lt, int_lt, unsigned_abs, decimal, if◌then◌else◌, Option, Some, None, option_and_then}
use Rattle.std.specs.Fmt.{signed_decimal}
use Rattle.std.specs.Str.Parse.{digits_value, signed_digits_value}

-- the number below 2 ^ 64 that is written so
unfoldable pub numeral_in : List ℕ → Option ℕ
numeral_in s = let n = digits_value 10 s in if bytes_eq s (decimal n) && nat_lt n (2 ^ 64) then Some n else None

-- the same, from low to high
unfoldable pub natural_in : ℕ → ℕ → List ℕ → Option ℕ
natural_in low high s = option_and_then (λ n. if nat_lt n low || nat_lt high n then None else Some n) (numeral_in s)

-- the whole number between -2 ^ 63 and 2 ^ 63 that is written so, with a minus where it is below 0
unfoldable pub signed_in : List ℕ → Option ℤ
signed_in s = let z = signed_digits_value 10 s in if bytes_eq s (signed_decimal z) && nat_lt (unsigned_abs z) (2 ^ 63) then Some z else None

-- the same, from low to high
unfoldable pub integer_in : ℤ → ℤ → List ℕ → Option ℤ
integer_in low high s = option_and_then (λ z. if int_lt z low || int_lt high z then None else Some z) (signed_in s)
