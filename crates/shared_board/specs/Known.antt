-- What holds of the rows that a desk has met.
use Rattle.std.specs.Prelude.{◌≡◌, ◌⊎◌, ℕ, ◌+◌, List, All, Contains}
use Rattle.shared_board.specs.Rule.{Has}
use Rattle.shared_board.specs.Plays.{IsApart}
use Rattle.shared_board.specs.declared.known.Place.{Place}

-- the row has the key, as far as is known, and no key has two rows
pub record IsKnownRow (keys : List (ℕ × ℕ)) (key row : ℕ) : Type 0 where
  pub has : Has (row, key) keys
  pub apart : IsApart keys

-- the place is free, or has a key and its row
pub record IsPlace (keys : List (ℕ × ℕ)) (x : Place) : Type 0 where
  pub taken : (row : ℕ) → x.row_plus_one ≡ row + 1 → IsKnownRow keys x.key row

abbrev pub AreKnown : List (ℕ × ℕ) → List Place → Type 0
AreKnown keys places = All (IsPlace keys) places

-- the place is free, or one of these
abbrev pub IsFreeOrIn : List Place → Place → Type 0
IsFreeOrIn places x = (x.row_plus_one ≡ 0) ⊎ Contains places x
