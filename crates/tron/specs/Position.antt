-- Which grids, walls and heads make a position, and the first fault of the others.
use Rattle.std.specs.Prelude.{◌≡◌, ℕ, ◌*◌, ◌<◌, ◌≤◌, ◌^◌, ◌||◌, ◌==◌, nat_le, if◌then◌else◌, List, [], ◌∷◌, ◌++◌, position, Option, Some, None, option_map}
use Rattle.text.specs.Faults.{is_outside, first_some}
use Rattle.tron.specs.declared.Setting.{Setting}
use Rattle.tron.specs.declared.TronError.{TronError}
use Rattle.tron.specs.declared.TronError.TheVariants.{GridRange, CellRange, HeadInWall, HeadsMeet}
use Rattle.tron.specs.Cells.{is_listed, IsSetOf}

-- ---- the rules, each with what is said where it is broken
-- the height or the width is not 1 to 6
abbrev pub grid_range : ℕ → ℕ → Option TronError
grid_range height width = if is_outside 1 6 height || is_outside 1 6 width then Some GridRange else None

-- the walls, and then both heads
abbrev pub named_cells : List ℕ → ℕ → ℕ → List ℕ
named_cells walls one two = walls ++ one ∷ two ∷ []

-- the first cell that is not below the number of cells of the grid
abbrev pub cell_range : ℕ → List ℕ → Option TronError
cell_range count cells = option_map CellRange (position (λ cell. nat_le count cell) cells)

-- a head stands on a wall
abbrev pub head_in_wall : List ℕ → ℕ → ℕ → Option TronError
head_in_wall walls one two = if is_listed walls one || is_listed walls two then Some HeadInWall else None

-- both heads are on one cell
abbrev pub heads_meet : ℕ → ℕ → Option TronError
heads_meet one two = if one == two then Some HeadsMeet else None

-- the first rule that is broken
abbrev pub first_fault : ℕ → ℕ → List ℕ → ℕ → ℕ → Option TronError
first_fault height width walls one two = first_some (
    grid_range height width ∷ cell_range (height * width) (named_cells walls one two) ∷
    head_in_wall walls one two ∷ heads_meet one two ∷ [])

-- ---- positions
-- the setting holds this grid and these heads, and just the walls and the heads are taken
pub record IsSettingOf (height width : ℕ) (walls : List ℕ) (one two : ℕ) (g : Setting) : Type 0 where
  pub height_is : g.height ≡ height
  pub width_is : g.width ≡ width
  pub one_is : g.one ≡ one
  pub two_is : g.two ≡ two
  pub taken_is : IsSetOf (named_cells walls one two) g.taken

pub record IsGrid (height width : ℕ) : Type 0 where
  pub height_low : 1 ≤ height
  pub height_high : height ≤ 6
  pub width_low : 1 ≤ width
  pub width_high : width ≤ 6

-- the setting can be played
pub record IsPosition (g : Setting) : Type 0 where
  pub grid : IsGrid g.height g.width
  pub one_on_grid : g.one < g.height * g.width
  pub two_on_grid : g.two < g.height * g.width
  pub taken_on_grid : g.taken < 2 ^ (g.height * g.width)
