-- Where a part of a search begins, how it ends, and what it keeps.
use Rattle.std.specs.Prelude.{◌≡◌, ℕ, ◌+◌, ◌≤◌, ℤ, Bool, Result, OnOk}
use Rattle.sim_game.specs.declared.Side.{Side}
use Rattle.sim_game.specs.Model.{GameModel, Reachable, LeadsTo}
use Rattle.bounds_board.specs.Views.{BoardView, WasFull}
use Rattle.serial_ab.specs.Counts.{spent_on, WasCut}
use Rattle.serial_ab.specs.Searches.{EndsWith, IsSerialKept}
use Rattle.serial_ab.specs.Tables.{TableView}
use Rattle.serial_ab.specs.Transpositions.{AreRemembered}
use Rattle.serial_ab.specs.declared.stop.SerialStop.{SerialStop}
use Rattle.serial_ab.specs.declared.task.SerialWorker.{SerialWorker}

-- where a search stands: the board is of the game, all that the table tells is so over it, and play can come to the state
pub record IsSearchedAt {S G N : Type 0} (m : GameModel S) (g : G) (v : BoardView G N) (table : TableView) (s : S) : Type 0
  where
    pub game : v.game ≡ g
    pub remembered : AreRemembered m v table
    pub reachable : Reachable m s

-- the same at a state that is no end
pub record IsSearchedBelow {S G N : Type 0} (m : GameModel S) (g : G) (v : BoardView G N) (table : TableView) (s : S) :
    Type 0 where
  pub game : v.game ≡ g
  pub remembered : AreRemembered m v table
  pub reachable : Reachable m s
  pub goes_on : 1 ≤ m.rank s

-- and without a table
pub record IsInnerState {S G N : Type 0} (m : GameModel S) (g : G) (v : BoardView G N) (s : S) : Type 0 where
  pub game : v.game ≡ g
  pub reachable : Reachable m s
  pub goes_on : 1 ≤ m.rank s

-- a part of the search of a state, of so many nodes: what it keeps, and the number that it finds by at least one visit,
-- or why it finds none
pub record IsPart {S G N : Type 0} (m : GameModel S) (may_stop : Bool) (side : Side) (s : S) (nodes : ℕ) (Found : ℤ → Type 0)
    (old new : BoardView G N) (before after : SerialWorker) (result : Result ℤ SerialStop) : Type 0 where
  pub kept : IsSerialKept m side nodes old new before.visits after.visits
  pub remembered : AreRemembered m new after.table
  pub same_limit : after.table.limit ≡ before.table.limit
  pub ends : EndsWith Found (WasCut may_stop side nodes before.visits after.visits) (WasFull m new (LeadsTo m s)) result
  pub below : OnOk result (spent_on side before.visits + 1 ≤ spent_on side after.visits)
