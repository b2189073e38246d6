-- Which bounds a table may have.
use Rattle.std.specs.Prelude.{◌≤◌, unsigned_abs}
use Rattle.sums.specs.declared.TheConstants.{MOST_BOUND}
use Rattle.bounds_board.specs.declared.bounds.Enclosure.{Enclosure}

pub record IsSmallEnclosure (e : Enclosure) : Type 0 where
  pub lower : unsigned_abs e.lower ≤ MOST_BOUND
  pub upper : unsigned_abs e.upper ≤ MOST_BOUND
