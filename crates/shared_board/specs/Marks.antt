-- What holds of the marks of rows.
use Rattle.std.specs.Prelude.{◌≡◌, ◌≢◌, ℕ, ◌+◌, ◌%◌, List, slice_index}
use Rattle.shared_board.specs.Known.{IsKnownRow}

-- the mark of a key: 1 to 251
abbrev pub mark_of : ℕ → ℕ
mark_of key = key % 251 + 1

-- a mark that is not 0 is that of a key which the row is known to have
pub record AreMarks (keys : List (ℕ × ℕ)) (marks : List ℕ) : Type 0 where
  pub tell : (row : ℕ) → slice_index marks row ≢ 0
      → (key : ℕ) × IsKnownRow keys key row × (mark_of key ≡ slice_index marks row)
