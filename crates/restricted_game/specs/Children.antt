-- The rows of the states after pairs of moves at one state, as far as they are known.
use Rattle.std.specs.Prelude.{◌≡◌, ℕ, ◌*◌, ◌<◌, ◌≤◌, Option, None, Some, List, length, slice_index_or}
use Rattle.sim_game.specs.declared.Side.{Side}
use Rattle.sim_game.specs.declared.Side.TheVariants.{One, Two}
use Rattle.sim_game.specs.Model.{GameModel, IsEnd}
use Rattle.sim_game.specs.Sides.{IsNoTighter, opening_bound}
use Rattle.bounds_board.specs.Views.{BoardView}
use Rattle.restricted_game.specs.Tables.{IsStride, draw_index}

-- how many moves Two has, how many draws a pair of moves has room for, and the known rows, one place a draw
pub record KeptRows : Type 0 where
  pub width : ℕ
  pub stride : ℕ
  pub rows : List (Option ℕ)

-- the row has the key of the state, which is no end, and what was seen there is no looser than the opening bounds
pub record IsRowOf {S G N : Type 0} (m : GameModel S) (v : BoardView G N) (t : S) (row : ℕ) : Type 0 where
  pub goes_on : 1 ≤ m.rank t
  pub holds : v.key_at row ≡ Some (m.key t)
  pub opened : (side : Side) → IsNoTighter side (opening_bound m side) (v.seen side (m.key t))

-- an end has no row
abbrev pub HasRow : {S G N : Type 0} → GameModel S → BoardView G N → S → Option ℕ → Type 0
HasRow m v t None = IsEnd m t
HasRow m v t (Some row) = IsRowOf m v t row

-- there is a place for each draw after each pair of moves
pub record HasPlaces {S : Type 0} (m : GameModel S) (s : S) (children : KeptRows) : Type 0 where
  pub width : children.width ≡ m.moves Two s
  pub stride : IsStride m s children.stride
  pub room : length children.rows ≡ m.moves One s * m.moves Two s * children.stride

-- no row is known
pub record HasNoRows {S : Type 0} (m : GameModel S) (s : S) (children : KeptRows) : Type 0 where
  pub places : HasPlaces m s children
  pub none : (place row : ℕ) → slice_index_or children.rows place None ≡ Some row → ⊥

-- each known row is that of the state after its moves and its draw
pub record AreChildRows {S G N : Type 0} (m : GameModel S) (v : BoardView G N) (s : S) (children : KeptRows) : Type 0 where
  pub places : HasPlaces m s children
  pub each : (one two draw row : ℕ) → one < m.moves One s → two < m.moves Two s → draw < m.draws s one two
      → slice_index_or children.rows (draw_index children.width children.stride one two draw) None ≡ Some row → IsRowOf m v (m.drawn s one two draw) row
