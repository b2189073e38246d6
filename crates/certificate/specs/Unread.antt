-- What is still to be read of a text or of a line.
use Rattle.std.specs.Prelude.{ℕ, List}

-- The lines, of which the last has no line feed behind it, or the fields; and the number of the line.
pub record Unread : Type 0 where
  pub parts : List (List ℕ)
  pub number : ℕ
