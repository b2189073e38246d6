-- What a transposition table may hold.
use Rattle.std.specs.Prelude.{◌≡◌, ◌≤◌}
use Rattle.sim_game.specs.Model.{GameModel, Reachable}
use Rattle.bounds_board.specs.Views.{BoardView}
use Rattle.serial_ab.specs.Searches.{IsFound}
use Rattle.serial_ab.specs.Values.{inner_nodes}
use Rattle.serial_ab.specs.Tables.{TableView, Tells}
use Rattle.serial_ab.specs.declared.transpositions.Query.{Query}
use Rattle.serial_ab.specs.declared.transpositions.Memo.{Memo}

-- the number is what a search of the state finds over the board, and it took some visits below the state, no more than
-- there are nodes
pub record IsRemembered {S G N : Type 0} (m : GameModel S) (v : BoardView G N) (q : Query) (e : Memo) : Type 0 where
  pub found : (s : S) → Reachable m s → m.key s ≡ q.key → IsFound m q.side s q.worse q.better v e.number
  pub some : 1 ≤ e.visits
  pub few : (s : S) → Reachable m s → m.key s ≡ q.key → e.visits ≤ inner_nodes m q.side s

-- so it is with each search that the table tells
pub record AreRemembered {S G N : Type 0} (m : GameModel S) (v : BoardView G N) (table : TableView) : Type 0 where
  pub each : (q : Query) (e : Memo) → Tells table.stored q e → IsRemembered m v q e
