-- What a serial search of a state finds and keeps.
use Rattle.std.specs.Prelude.{◌≡◌, ◌≢◌, ◌+◌, ◌≤◌, ℤ, Bool, false, Result, Ok, Err, IfOk}
use Rattle.sim_game.specs.declared.Side.{Side}
use Rattle.sim_game.specs.declared.Side.TheVariants.{One, Two}
use Rattle.sim_game.specs.Model.{GameModel, LeadsTo}
use Rattle.sim_game.specs.Sides.{IsNoTighter, opening_bound}
use Rattle.plan_book.specs.Serial.{serial_bound, tree_size}
use Rattle.bounds_board.specs.Views.{BoardView, WasFull, known_bound}
use Rattle.bounds_board.specs.declared.bounds.BoardFault.{BoardFault}
use Rattle.bounds_board.specs.declared.bounds.BoardFault.TheVariants.{Full}
use Rattle.serial_ab.specs.Counts.{VisitsView, spent_on, left_on}
use Rattle.serial_ab.specs.Ends.{IsValue, IsShown}
use Rattle.serial_ab.specs.Searches.{IsSerialKept}
use Rattle.serial_ab.specs.declared.windowed.SerialEnd.{SerialEnd}
use Rattle.serial_ab.specs.declared.windowed.SerialEnd.TheVariants.{Cut}

-- a search for a side with the window from low to high, which may be stopped or not: what it does to the board and to the
-- visits, and how it ends
pub record IsSerialEnd {S G N : Type 0} (m : GameModel S) (may_stop : Bool) (side : Side) (s : S) (low high : ℤ)
    (old new : BoardView G N) (before after : VisitsView) (result : Result SerialEnd BoardFault) : Type 0 where
  pub kept : IsSerialKept m side (tree_size m s) old new before after
  pub value : IfOk result (IsValue low high (serial_bound m side s))
  -- for want of visits, unless it may be stopped
  pub cut : may_stop ≡ false → result ≡ Ok Cut → left_on side after ≡ 0
  pub none_left : left_on side before ≡ 0 → result ≡ Ok Cut
  pub enough : may_stop ≡ false → tree_size m s ≤ left_on side before → result ≢ Ok Cut
  -- the state itself costs a visit, ends too
  pub entered : 1 ≤ left_on side before → spent_on side before + 1 ≤ spent_on side after
  -- and so does a child, where the state is no end
  pub below : 1 ≤ m.rank s → IfOk result (λ end. end ≢ Cut → spent_on side before + 2 ≤ spent_on side after)
  -- what is found inside the window, or beyond its better end, is known
  pub seen : 1 ≤ m.rank s → IfOk result (IsShown side (known_bound m new side s))
  -- over the whole range the serial bound is
  pub whole : low ≡ opening_bound m One → high ≡ opening_bound m Two → 1 ≤ m.rank s
      → IfOk result (λ end. end ≢ Cut → IsNoTighter side (serial_bound m side s) (known_bound m new side s))
  pub full : result ≡ Err Full → WasFull m new (LeadsTo m s)
