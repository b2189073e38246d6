-- A state of the game on a board, and what is kept of the board from one moment to another.
use Rattle.std.specs.Prelude.{◌≡◌, ℕ, ◌≤◌, Option, Some}
use Rattle.sim_game.specs.declared.Side.TheVariants.{One, Two}
use Rattle.sim_game.specs.Model.{GameModel, Reachable}
use Rattle.plan_book.specs.Books.{Grows}
use Rattle.plan_book.specs.Entries.{IsLawfulEntry}
use Rattle.bounds_board.specs.Views.{BoardView, IsLater}
use Rattle.restricted_game.specs.Children.{KeptRows, HasRow, AreChildRows}
use Rattle.restricted_game.specs.Held.{HeldMoves}

-- a reachable state of the board's game that is no end, and its row
pub record IsAtNode {S G N : Type 0} (m : GameModel S) (g : G) (v : BoardView G N) (s : S) (row : ℕ) : Type 0 where
  pub game : v.game ≡ g
  pub reachable : Reachable m s
  pub goes_on : 1 ≤ m.rank s
  pub holds : v.key_at row ≡ Some (m.key s)

-- one whose children are read, and the rows of these that are known
pub record IsAtChildRows {S G N : Type 0} (m : GameModel S) (g : G) (v : BoardView G N) (s : S) (known : KeptRows) : Type 0 where
  pub game : v.game ≡ g
  pub reachable : Reachable m s
  pub goes_on : 1 ≤ m.rank s
  pub children : AreChildRows m v s known

-- a reachable state of the board's game with its row, or an end with none
pub record IsAtStateRow {S G N : Type 0} (m : GameModel S) (g : G) (v : BoardView G N) (t : S) (row : Option ℕ) : Type 0 where
  pub game : v.game ≡ g
  pub reachable : Reachable m t
  pub has_row : HasRow m v t row

-- the state has as many moves of each side as the restricted game
pub record FitsState {S : Type 0} (m : GameModel S) (s : S) (h : HeldMoves) : Type 0 where
  pub rows : h.most_rows ≡ m.moves One s
  pub cols : h.most_cols ≡ m.moves Two s

-- the board knows no less, and only lawful entries were posted
pub record IsBetter {S G N : Type 0} (m : GameModel S) (old new : BoardView G N) : Type 0 where
  pub later : IsLater old new
  pub posted : Grows (IsLawfulEntry m old.total) old.entries new.entries

-- the board knows no less, nothing was posted, and the rows that are known are those of the states after the moves of this one
pub record HasOnlyRead {S G N : Type 0} (m : GameModel S) (old new : BoardView G N) (s : S) (known : KeptRows) : Type 0 where
  pub later : IsLater old new
  pub entries : new.entries ≡ old.entries
  pub children : AreChildRows m new s known
