-- The reports that have a text: each number is in its range.
use Rattle.std.specs.Prelude.{◌≡◌, ℕ, ◌≤◌, pos, unsigned_abs, length, map, All}
use Rattle.std.specs.List.Sorted.{IsStrictlyIncreasing}
use Rattle.sums.specs.declared.TheConstants.{LEAST_WEIGHT, MOST_WEIGHT}
use Rattle.sim_game.specs.declared.Side.{Side}
use Rattle.sim_game.specs.declared.Side.TheVariants.{One, Two}
use Rattle.plan_book.specs.declared.Sheet.{Sheet}
use Rattle.plan_book.specs.declared.SheetRow.{SheetRow}
use Rattle.sim_game.specs.declared.Limits.{Limits}
use Rattle.certificate.specs.declared.report.Report.{Report}
use Rattle.certificate.specs.Versions.{limits_of, most_rows, most_moves, version_of}
use Rattle.fields.specs.Ranges.{Within, Between, IsPositionInRange}

pub record IsRowInRange (row : SheetRow) : Type 0 where
  pub key : row.key ≤ 9223372036854775807
  pub bound : unsigned_abs row.bound ≤ 4000000000
  pub moves : Within 1 64 (length row.weights)
  pub weights : All (λ w. w ≤ MOST_WEIGHT) row.weights

-- a sheet of the side with the total, within the limits, whose keys rise
pub record IsSheetInRange (limits : Limits) (side : Side) (total : ℕ) (sheet : Sheet) : Type 0 where
  pub side_is : sheet.side ≡ side
  pub total_is : sheet.total ≡ total
  pub few : length sheet.rows ≤ most_rows limits
  pub rows : All IsRowInRange sheet.rows
  pub moves : All (λ (row : SheetRow). length row.weights ≤ most_moves limits) sheet.rows
  pub rising : IsStrictlyIncreasing (map (λ row. row.key) sheet.rows)

-- a report within the limits of its version
pub record IsInRange (r : Report) : Type 0 where
  pub position : IsPositionInRange r.position
  pub weight : Within LEAST_WEIGHT MOST_WEIGHT r.weight
  pub turns : r.turns ≤ 1099511627776
  pub asked : Between (pos 0) (pos 8000000000) r.asked
  pub resolution : Between (pos 0) (pos 99999999999) r.resolution
  pub lower : unsigned_abs r.lower ≤ 4000000000
  pub upper : unsigned_abs r.upper ≤ 4000000000
  pub workers : Within 1 16 (length r.spent)
  pub spent : All (λ n. n ≤ 1099511627776) r.spent
  pub one : IsSheetInRange (limits_of (version_of r)) One r.weight r.one
  pub two : IsSheetInRange (limits_of (version_of r)) Two r.weight r.two
