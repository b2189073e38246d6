-- The lists of a table in memory.
use Rattle.std.specs.Prelude.{◌≡◌, ℕ, ◌+◌, ◌<◌, ℤ, pos, negsuc, List}
use Rattle.table.specs.declared.setting.Setting.{Setting}
use Rattle.table.specs.declared.setting.Cell.{Cell}
use Rattle.table.specs.declared.setting.Cell.TheVariants as cells
use Rattle.table.specs.Lists.{Lists, lists_from, draw_total}

abbrev pub lists_of : Setting → Lists
lists_of setting = lists_from setting.ranks.now setting.moves.now setting.values.now setting.cells.now setting.draws.now setting.rewards.now

-- the number that stands for a cell
abbrev pub cell_number : Cell → ℤ
cell_number (cells.State state) = pos state
cell_number (cells.Draws first) = negsuc first

-- the setting holds these lists
abbrev pub IsSettingOf : List ℤ → List ℤ → List ℤ → List ℤ → List ℤ → List ℤ → Setting → Type 0
IsSettingOf ranks moves values cells draws rewards setting = lists_of setting ≡ lists_from ranks moves values cells draws rewards

-- where the cell has draws, the list has one of this number behind the first
abbrev pub HasDraw : Lists → ℤ → ℕ → Type 0
HasDraw l number d = (first : ℕ) → number ≡ negsuc first → first + d < draw_total l
