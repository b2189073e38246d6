-- The game of a table, told by its nested form alone: no list of cells or draws, no place.
use Rattle.std.specs.Prelude.{◌≡◌, ◌⊎◌, ◌↔◌, ℕ, ◌<◌, ◌≤◌, ℤ, pos, ◌+ℤ◌, ◌≤ℤ◌, unsigned_abs, true, false, IsTrue, List, [], length, slice_index_or}
use Rattle.sim_game.specs.declared.Side.{Side}
use Rattle.sim_game.specs.declared.Side.TheVariants.{One, Two}
use Rattle.sim_game.specs.Model.{whole_chance, GameModel, IsEnd}
use Rattle.sim_game.specs.Sides.{IsNoTighter}
use Rattle.table.specs.declared.State.{State}
use Rattle.table.specs.Lists.{count_in}
use Rattle.table.specs.Nested.{CellForm, Follows, Draws, StateForm, End, Rows, has_paid_draw, reward_told}

-- ---- what a game tells for a side
-- the least sum that One can still get for One, the greatest for Two
abbrev pub worst_sum : GameModel State → Side → State → ℤ
worst_sum m One s = m.least s
worst_sum m Two s = m.most s

abbrev pub range_sum : GameModel State → Side → ℤ
range_sum m One = m.low
range_sum m Two = m.high

-- ---- a state
abbrev pub form_at : List StateForm → ℕ → StateForm
form_at forms s = slice_index_or forms s (End (pos 0))

abbrev pub rows_in : StateForm → List (List CellForm)
rows_in (End payoff) = []
rows_in (Rows rows) = rows

-- One's moves are the rows, Two's the cells of a row
abbrev pub form_moves : Side → StateForm → ℕ
form_moves One form = length (rows_in form)
form_moves Two form = length (slice_index_or (rows_in form) 0 [])

-- the cell of two moves
abbrev pub form_cell : StateForm → ℕ → ℕ → CellForm
form_cell form a b = slice_index_or (slice_index_or (rows_in form) a []) b (Follows (pos 0))

-- ---- a cell
abbrev pub cell_draws : CellForm → ℕ
cell_draws (Follows state) = 1
cell_draws (Draws draws) = length draws

abbrev pub cell_chance : CellForm → ℕ → ℕ
cell_chance (Follows state) d = whole_chance
cell_chance (Draws draws) d = count_in (slice_index_or draws d []) 1

abbrev pub cell_follows : CellForm → ℕ → ℕ
cell_follows (Follows state) d = unsigned_abs state
cell_follows (Draws draws) d = count_in (slice_index_or draws d []) 0

abbrev pub cell_reward : CellForm → ℕ → ℤ
cell_reward (Follows state) d = pos 0
cell_reward (Draws draws) d = reward_told (slice_index_or draws d [])

-- ---- the game
-- the sides have these moves at a state of the form
pub record HaveMoves (forms : List StateForm) (s : State) (a b : ℕ) : Type 0 where
  pub here : s.number < length forms
  pub one : a < form_moves One (form_at forms s.number)
  pub two : b < form_moves Two (form_at forms s.number)

-- each cell of two moves has one draw
abbrev pub HaveOneDraw : List StateForm → Type 0
HaveOneDraw forms = (s : State) (a b : ℕ) → HaveMoves forms s a b → cell_draws (form_cell (form_at forms s.number) a b) ≡ 1

-- ---- what can still be got
-- between the least payoff of an end and the greatest, at each state
pub record IsUnpaid (forms : List StateForm) (m : GameModel State) : Type 0 where
  pub low_least : (s : ℕ) (payoff : ℤ) → s < length forms → form_at forms s ≡ End payoff → m.low ≤ℤ payoff
  pub low_there : (s : ℕ) × (s < length forms) × (form_at forms s ≡ End m.low)
  pub high_most : (s : ℕ) (payoff : ℤ) → s < length forms → form_at forms s ≡ End payoff → payoff ≤ℤ m.high
  pub high_there : (s : ℕ) × (s < length forms) × (form_at forms s ≡ End m.high)
  pub least : (s : State) → m.least s ≡ m.low
  pub most : (s : State) → m.most s ≡ m.high

-- a turn of the form at a state
pub record IsFormTurn (forms : List StateForm) (s : State) (a b d : ℕ) : Type 0 where
  pub moves : HaveMoves forms s a b
  pub draw : d < cell_draws (form_cell (form_at forms s.number) a b)

-- the reward of a turn, and the worst for a side after it
abbrev pub form_sum : List StateForm → GameModel State → Side → State → ℕ → ℕ → ℕ → ℤ
form_sum forms m side s a b d =
    cell_reward (form_cell (form_at forms s.number) a b) d
    +ℤ worst_sum m side (record { number = cell_follows (form_cell (form_at forms s.number) a b) d })

-- the worst sum for a side, from each state on and from any
pub record IsPaidFor (forms : List StateForm) (m : GameModel State) (side : Side) : Type 0 where
  -- at an end it is the payoff
  pub at_end : (s : State) (payoff : ℤ) → s.number < length forms → form_at forms s.number ≡ End payoff → worst_sum m side s ≡ payoff
  -- no turn is worse, and some turn is as bad
  pub no_worse : (s : State) (a b d : ℕ) → IsFormTurn forms s a b d → IsNoTighter side (worst_sum m side s) (form_sum forms m side s a b d)
  pub as_bad : (s : State) (rows : List (List CellForm)) → s.number < length forms → form_at forms s.number ≡ Rows rows
      → (a : ℕ) × (b : ℕ) × (d : ℕ) × IsFormTurn forms s a b d × (worst_sum m side s ≡ form_sum forms m side s a b d)
  -- no state is worse than the range tells, and some state is as bad
  pub range_holds : (s : State) → s.number < length forms → IsNoTighter side (range_sum m side) (worst_sum m side s)
  pub range_there : (s : State) × (s.number < length forms) × (range_sum m side ≡ worst_sum m side s)

-- ---- all calls
-- each call of the game answers as the form tells
pub record IsNestedGame (forms : List StateForm) (m : GameModel State) : Type 0 where
  pub root : m.root ≡ record { number = 0 }
  pub key : (s : State) → m.key s ≡ s.number
  pub label : (side : Side) (s : State) (i : ℕ) → m.label side s i ≡ i
  pub moves : (side : Side) (s : State) → s.number < length forms → m.moves side s ≡ form_moves side (form_at forms s.number)
  pub draws : (s : State) (a b : ℕ) → HaveMoves forms s a b → m.draws s a b ≡ cell_draws (form_cell (form_at forms s.number) a b)
  pub chance : (s : State) (a b d : ℕ) → HaveMoves forms s a b → d < cell_draws (form_cell (form_at forms s.number) a b)
      → m.chance s a b d ≡ cell_chance (form_cell (form_at forms s.number) a b) d
  pub drawn : (s : State) (a b d : ℕ) → HaveMoves forms s a b → d < cell_draws (form_cell (form_at forms s.number) a b)
      → m.drawn s a b d ≡ record { number = cell_follows (form_cell (form_at forms s.number) a b) d }
  pub ends : (s : State) (payoff : ℤ) → s.number < length forms → form_at forms s.number ≡ End payoff → IsEnd m s × (m.payoff s ≡ payoff)
  pub inner : (s : State) (rows : List (List CellForm)) → s.number < length forms → form_at forms s.number ≡ Rows rows → 1 ≤ m.rank s
  pub reward : (s : State) (a b d : ℕ) → HaveMoves forms s a b → d < cell_draws (form_cell (form_at forms s.number) a b)
      → m.reward s a b d ≡ cell_reward (form_cell (form_at forms s.number) a b) d
  -- where no draw has a reward, the range of payoffs is that of all ends
  pub unpaid : has_paid_draw forms ≡ false → IsUnpaid forms m
  -- else what can still be got at a state is told by the states that follow
  pub paid : has_paid_draw forms ≡ true → (side : Side) → IsPaidFor forms m side
  -- the width is the greatest number of moves of either side, and 1 where there are none
  pub width_most : (side : Side) (s : ℕ) → s < length forms → form_moves side (form_at forms s) ≤ m.width
  pub width_there : (m.width ≡ 1) ⊎ ((side : Side) × (s : ℕ) × (s < length forms) × (form_moves side (form_at forms s) ≡ m.width))
  -- the game is free of chance exactly if each cell has one draw
  pub chance_free_is : IsTrue m.chance_free ↔ HaveOneDraw forms
