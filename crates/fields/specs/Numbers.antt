-- Ranges of numbers and of lists of them.
use Rattle.std.specs.Prelude.{ℕ, ◌≤◌, ℤ, ◌≤ℤ◌, All, length, List}

abbrev pub Within : ℕ → ℕ → ℕ → Type 0
Within low high n = (low ≤ n) × (n ≤ high)

abbrev pub Between : ℤ → ℤ → ℤ → Type 0
Between low high z = low ≤ℤ z × z ≤ℤ high

-- at most so many numbers from 0 to 255
pub record IsByteList (most : ℕ) (ns : List ℕ) : Type 0 where
  pub few : length ns ≤ most
  pub small : All (λ n. n ≤ 255) ns

-- at most so many whole numbers from low to high
pub record IsNumberList (low high : ℤ) (most : ℕ) (zs : List ℤ) : Type 0 where
  pub few : length zs ≤ most
  pub within : All (Between low high) zs
