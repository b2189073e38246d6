-- Sets of small numbers, packed into the bits of a number.
use Rattle.std.specs.Prelude.{ℕ, Bool, ◌-◌, ◌^◌, ◌==◌, bit_or, List, filter, sum_by}
use Rattle.std.specs.Int.{bit_at}
use Rattle.std.specs.List.{range_with_len}

-- whether the bit of the number is 1; the lowest bit stands for 0
abbrev pub is_in : ℕ → ℕ → Bool
is_in set number = bit_at set number == 1

-- the set and one more number
abbrev pub with_number : ℕ → ℕ → ℕ
with_number set number = bit_or set (2 ^ number)

-- the numbers from `low` to `low + count - 1` whose bits are 1 in a packed set, rising; the lowest bit stands for `low`
unfoldable pub members : ℕ → ℕ → ℕ → List ℕ
members count low packed = filter (λ number. bit_at packed (number - low) == 1) (range_with_len low count)

-- the packed set: the sum of 2 ^ (number - low) over its numbers
abbrev pub packed_from : ℕ → List ℕ → ℕ
packed_from low numbers = sum_by (λ number. 2 ^ (number - low)) numbers
