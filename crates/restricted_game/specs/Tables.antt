-- Tables of what a step reads, one place a draw, pair of moves by pair of moves, row by row; and lists that are made from them.
use Rattle.std.specs.Prelude.{◌≡◌, Bool, ℕ, ◌+◌, ◌*◌, ◌/◌, ◌%◌, ◌<◌, ◌≤◌, ℤ, pos, ◌*ℤ◌, List, [], ◌∷◌, length, map, slice_index, slice_index_or}
use Rattle.std.specs.Bool.{then_some}
use Rattle.std.specs.List.{Contains, range_with_len}
use Rattle.sums.specs.Sums.{sum_below}
use Rattle.sim_game.specs.declared.Side.{Side}
use Rattle.sim_game.specs.declared.Side.TheVariants.{One, Two}
use Rattle.sim_game.specs.Model.{GameModel, Reachable}
use Rattle.sim_game.specs.Sides.{IsNoTighter, move_of_one, move_of_two, quotient}
use Rattle.plan_book.specs.declared.Entry.{Entry}
use Rattle.plan_book.specs.Steps.{rounded}
use Rattle.matrix_game.specs.declared.solver.StageSolver.{StageSolver}
use Rattle.matrix_game.specs.Grid.{Grid}
use Rattle.best_reply.specs.Replies.{IsBestReply, worth_in}
use Rattle.bounds_board.specs.declared.bounds.Enclosure.{Enclosure}
use Rattle.bounds_board.specs.Views.{BoardView, bound_in, known_bound}
use Rattle.restricted_game.specs.declared.table.StageCells.{StageCells}
use Rattle.restricted_game.specs.declared.plans.Plans.{Plans}
use Rattle.restricted_game.specs.declared.plans.SidePlan.{SidePlan}
use Rattle.restricted_game.specs.declared.table.StageTable.{StageTable}
use Rattle.restricted_game.specs.Numbers.{AreTurnRead, IsWanted}
use Rattle.restricted_game.specs.Runs.{IsHeldGrid, IsHeldStage, IsSpreadOver, IsPlan, IsPosted, entry_at}

-- ---- places
-- where a draw after a pair of moves stands, with so many moves of Two and room for so many draws a pair
abbrev pub draw_index : ℕ → ℕ → ℕ → ℕ → ℕ → ℕ
draw_index width stride one two draw = (one * width + two) * stride + draw

abbrev pub enclosure_at : List Enclosure → ℕ → Enclosure
enclosure_at enclosures place = slice_index_or enclosures place (record { lower = pos 0; upper = pos 0 })

-- no pair of moves of the state has more draws
pub record IsStride {S : Type 0} (m : GameModel S) (s : S) (stride : ℕ) : Type 0 where
  pub some : 1 ≤ stride
  pub few : stride ≤ 13
  pub draws : (one two : ℕ) → one < m.moves One s → two < m.moves Two s → m.draws s one two ≤ stride

-- the wanted draws at the first places were read between two views
pub record AreFilled {S G N : Type 0} (m : GameModel S) (u v : BoardView G N) (s : S) (rows cols : List ℕ) (width stride places : ℕ) (enclosures : List Enclosure) : Type 0 where
  pub read : (one two draw : ℕ) → one < m.moves One s → two < m.moves Two s → draw_index width stride one two draw < places → IsWanted rows cols one two → draw < m.draws s one two
      → AreTurnRead m u v s one two draw (enclosure_at enclosures (draw_index width stride one two draw))

-- ---- a whole table
abbrev pub enclosure_in : StageTable → ℕ → ℕ → ℕ → Enclosure
enclosure_in table one two draw = enclosure_at table.enclosures.items (draw_index table.width table.stride one two draw)

-- the numbers of a side, by its own move, the other side's and the draw
abbrev pub numbers_in : Side → StageTable → ℕ → ℕ → ℕ → ℤ
numbers_in side table move other draw = bound_in side (enclosure_in table (move_of_one side move other) (move_of_two side move other) draw)

-- it has the shape of the state's moves
pub record HasShape {S : Type 0} (m : GameModel S) (s : S) (table : StageTable) : Type 0 where
  pub height : table.height ≡ m.moves One s
  pub width : table.width ≡ m.moves Two s
  pub stride : IsStride m s table.stride

-- and play can come to the state, which is no end
pub record IsAtTable {S : Type 0} (m : GameModel S) (s : S) (table : StageTable) : Type 0 where
  pub reachable : Reachable m s
  pub goes_on : 1 ≤ m.rank s
  pub shape : HasShape m s table

-- each wanted draw was read between two views
pub record IsFilled {S G N : Type 0} (m : GameModel S) (u v : BoardView G N) (s : S) (rows cols : List ℕ) (table : StageTable) : Type 0 where
  pub read : (one two draw : ℕ) → one < m.moves One s → two < m.moves Two s → IsWanted rows cols one two → draw < m.draws s one two
      → AreTurnRead m u v s one two draw (enclosure_in table one two draw)

-- ---- cells
-- the cell of a side at a pair of moves
abbrev pub pair_cell : {S : Type 0} → GameModel S → Side → S → StageTable → ℕ → ℕ → ℤ
pair_cell m side s table one two = rounded side (sum_below (m.draws s one two) (λ draw. pos (m.chance s one two draw) *ℤ bound_in side (enclosure_in table one two draw)))

-- the cells of all pairs, row by row
abbrev pub cells_in : {S : Type 0} → GameModel S → Side → S → StageTable → List ℤ
cells_in m side s table = map (λ place. pair_cell m side s table (place / table.width) (place % table.width)) (range_with_len 0 (table.height * table.width))

-- the cells of held moves, row by row in order of addition
abbrev pub held_cells : List ℤ → ℕ → List ℕ → List ℕ → List ℤ
held_cells cells width rows cols =
    map (λ place. slice_index_or cells (slice_index rows (place / length cols) * width + slice_index cols (place % length cols)) (pos 0)) (range_with_len 0 (length rows * length cols))

-- the game on the held moves
abbrev pub held_grid : List ℤ → ℕ → List ℕ → List ℕ → Grid
held_grid cells width rows cols = record { rows = length rows; cols = length cols; cells = held_cells cells width rows cols }

-- the cells of all pairs of moves of a state
pub record AreCells {S : Type 0} (m : GameModel S) (side : Side) (s : S) (table : StageTable) (cells : StageCells) : Type 0 where
  pub height : cells.height ≡ table.height
  pub width : cells.width ≡ table.width
  pub items : cells.items.items ≡ cells_in m side s table

-- ---- plans
-- a side's plan over cells: the weights of held moves, the best reply to them, which may be fresh, and the tightest bound that they prove
pub record IsCellPlan (side : Side) (total : ℕ) (cells : StageCells) (own others weights : List ℕ) (plan : SidePlan) : Type 0 where
  pub spread : IsSpreadOver (move_of_one side cells.height cells.width) own weights plan.weights.items
  pub reply : ℕ
  pub sum : ℤ
  pub is_fresh : Bool
  pub is_best : IsBestReply side (worth_in side cells.items.items cells.width plan.weights.items) (move_of_two side cells.height cells.width) others reply sum is_fresh
  pub bound_is : plan.bound ≡ quotient side total sum
  pub fresh_is : plan.fresh ≡ then_some is_fresh reply

-- the plans of both sides over the numbers of a table, by the weights that solve the game on the held moves
pub record ArePlans {S : Type 0} (m : GameModel S) (solver : StageSolver) (s : S) (total : ℕ) (rows cols : List ℕ) (table : StageTable) (plans : Plans) : Type 0 where
  pub grid : Grid
  pub row_weights : List ℕ
  pub col_weights : List ℕ
  pub stage : IsHeldStage solver total grid row_weights col_weights
  pub is_grid : IsHeldGrid m s rows cols (numbers_in One table) grid
  pub one : IsPlan m One s total rows cols row_weights (numbers_in One table) plans.one.weights.items plans.one.bound plans.one.fresh
  pub two : IsPlan m Two s total cols rows col_weights (numbers_in Two table) plans.two.weights.items plans.two.bound plans.two.fresh

-- the entry of a side's plan
abbrev pub side_entry : {S : Type 0} → GameModel S → Side → S → SidePlan → Entry
side_entry m side s plan = entry_at m side s plan.bound plan.weights.items

-- the entries of both plans were posted where they are tighter, One's first
pub record ArePosted {S G N : Type 0} (m : GameModel S) (u v : BoardView G N) (s : S) (plans : Plans) : Type 0 where
  pub between : List Entry
  pub one_posted : IsPosted u (side_entry m One s plans.one) u.entries between
  pub two_posted : IsPosted u (side_entry m Two s plans.two) between v.entries
  pub one_known : IsNoTighter One plans.one.bound (known_bound m v One s)
  pub two_known : IsNoTighter Two plans.two.bound (known_bound m v Two s)

-- a side's plan over the numbers of a table that puts all weight on one of its held moves
pub record IsAlone {S : Type 0} (m : GameModel S) (side : Side) (s : S) (total : ℕ) (own others : List ℕ) (table : StageTable) (plan : SidePlan) : Type 0 where
  pub place : ℕ
  pub held : Contains own place
  pub planned : IsPlan m side s total (place ∷ []) others (total ∷ []) (numbers_in side table) plan.weights.items plan.bound plan.fresh
