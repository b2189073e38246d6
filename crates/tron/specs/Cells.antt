-- Sets of cells: a list of cells, and the number that packs it.
use Rattle.std.specs.Prelude.{◌≡◌, ◌≢◌, ℕ, Bool, if◌then◌else◌, ◌==◌, ◌^◌, bit_or, List, [], ◌∷◌, ◌++◌, AllPairs, fold}
use Rattle.std.specs.Int.{bit_at}
use Rattle.std.specs.List.{list_any}

-- whether the bit of the cell is 1
abbrev pub is_taken : ℕ → ℕ → Bool
is_taken taken cell = bit_at taken cell == 1

-- the set and one more cell
abbrev pub with_cell : ℕ → ℕ → ℕ
with_cell taken cell = bit_or taken (2 ^ cell)

-- whether the cell stands in the list
abbrev pub is_listed : List ℕ → ℕ → Bool
is_listed cells cell = list_any (λ other. other == cell) cells

-- the list and one more cell, where it does not stand there
abbrev pub add_cell : List ℕ → ℕ → List ℕ
add_cell cells cell = if is_listed cells cell then cells else cells ++ cell ∷ []

-- the cells of a list, each once
abbrev pub each_once : List ℕ → List ℕ
each_once cells = fold add_cell [] cells

-- the bits of the cells of the list are 1, and no others
pub record IsSetOf (cells : List ℕ) (taken : ℕ) : Type 0 where
  pub same : (cell : ℕ) → is_taken taken cell ≡ is_listed cells cell

-- each cell stands once in the list
abbrev pub AreDistinct : List ℕ → Type 0
AreDistinct cells = AllPairs (λ cell other. cell ≢ other) cells
