-- Best replies to weights: the move of the other side against which the weights are worth the least to their own side.
use Rattle.std.specs.Prelude.{◌≡◌, ◌≢◌, ℕ, ◌+◌, ◌*◌, ◌<◌, ◌≤◌, ℤ, pos, ◌*ℤ◌, List, length, slice_index, slice_index_or, unsigned_abs, Bool, IsTrue, IsFalse}
use Rattle.std.specs.List.{Contains}
use Rattle.sim_game.specs.declared.Side.{Side}
use Rattle.sim_game.specs.declared.Side.TheVariants.{One, Two}
use Rattle.sums.specs.declared.TheConstants.{MOST_BOUND, MOST_MOVES}
use Rattle.sums.specs.Sums.{sum_below}
use Rattle.sim_game.specs.Sides.{IsNoTighter, IsTighter}

-- where the cell of an own move and a reply stands in a table with so many columns: One's moves are the rows
abbrev pub cell_index : Side → ℕ → ℕ → ℕ → ℕ
cell_index One cols own reply = own * cols + reply
cell_index Two cols own reply = reply * cols + own

abbrev pub cell_in : Side → List ℤ → ℕ → ℕ → ℕ → ℤ
cell_in side cells cols own reply = slice_index_or cells (cell_index side cols own reply) (pos 0)

-- what the weights of a side are worth against a reply
abbrev pub worth_in : Side → List ℤ → ℕ → List ℕ → ℕ → ℤ
worth_in side cells cols weights reply = sum_below (length weights) (λ own. pos (slice_index weights own) *ℤ cell_in side cells cols own reply)

-- the table has a cell for each own move and each reply
pub record IsPayoffTable (side : Side) (cells : List ℤ) (cols owns replies : ℕ) : Type 0 where
  pub few_owns : owns ≤ MOST_MOVES
  pub few_replies : replies ≤ MOST_MOVES
  pub each : (own reply : ℕ) → own < owns → reply < replies → cell_index side cols own reply < length cells
  pub small : (own reply : ℕ) → own < owns → reply < replies → unsigned_abs (cell_in side cells cols own reply) ≤ MOST_BOUND

-- of the first n replies none has less worth to the side than the one at the place; a held one comes before the others, and a lesser number before a greater
pub record IsBestReply (side : Side) (worths : ℕ → ℤ) (n : ℕ) (held : List ℕ) (place : ℕ) (sum : ℤ) (fresh : Bool) : Type 0 where
  pub place_in : place < n
  pub worth : sum ≡ worths place
  pub least : (reply : ℕ) → reply < n → IsNoTighter side sum (worths reply)
  pub old : IsFalse fresh → Contains held place
  pub new : IsTrue fresh → (reply : ℕ) → reply < n → Contains held reply → worths reply ≢ sum
  pub first_old : IsFalse fresh → (reply : ℕ) → reply < place → Contains held reply → worths reply ≢ sum
  pub first_new : IsTrue fresh → (reply : ℕ) → reply < place → worths reply ≢ sum

-- a further reply of this worth comes before the best one
pub data IsBefore (side : Side) (best : ℤ) (best_fresh : Bool) (sum : ℤ) (fresh : Bool) : Type 0 where
  less : IsTighter side best sum → IsBefore side best best_fresh sum fresh
  held : sum ≡ best → IsTrue best_fresh → IsFalse fresh → IsBefore side best best_fresh sum fresh

pub data IsBehind (side : Side) (best : ℤ) (best_fresh : Bool) (sum : ℤ) (fresh : Bool) : Type 0 where
  more : IsNoTighter side best sum → sum ≢ best → IsBehind side best best_fresh sum fresh
  old : sum ≡ best → IsFalse best_fresh → IsBehind side best best_fresh sum fresh
  new : sum ≡ best → IsTrue fresh → IsBehind side best best_fresh sum fresh
