-- The ranges that the six lists of a position keep.
use Rattle.std.specs.Prelude.{ℕ, ◌≤◌, ℤ, pos, neg_ℤ, ◌≤ℤ◌, List, length, All}
use Rattle.table.specs.Lists.{Lists}

-- at most so many numbers, each from low to high
pub record AreWithin (low high : ℤ) (most : ℕ) (ns : List ℤ) : Type 0 where
  pub few : length ns ≤ most
  pub each : All (λ z. (low ≤ℤ z) × (z ≤ℤ high)) ns

pub record AreListsInRange (l : Lists) : Type 0 where
  pub ranks : AreWithin (pos 0) (pos 16777216) 16777216 l.ranks
  pub moves : AreWithin (pos 0) (pos 255) 33554432 l.moves
  pub values : AreWithin (neg_ℤ (pos 1000000)) (pos 16777216) 16777216 l.values
  pub cells : AreWithin (neg_ℤ (pos 16777216)) (pos 16777215) 16777216 l.cells
  pub draws : AreWithin (pos 0) (pos 16777215) 33554432 l.draws
  pub rewards : AreWithin (neg_ℤ (pos 1000000)) (pos 1000000) 16777216 l.rewards
