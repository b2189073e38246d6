-- The versions of reports, and how much a report of each can hold.
use Rattle.std.specs.Prelude.{ℕ, ◌==◌, Bool, true, false, not, ◌||◌, if◌then◌else◌, nat_lt, length}
use Rattle.plan_book.specs.declared.Sheet.{Sheet}
use Rattle.fields.specs.declared.positions.GameKind.{GameKind}
use Rattle.sim_game.specs.declared.Limits.{Limits}
use Rattle.sim_game.specs.declared.Limits.TheVariants.{Narrow, Wide}
use Rattle.fields.specs.Positions.{game_version, kind_of, is_narrow}
use Rattle.certificate.specs.declared.report.Outcome.{Outcome}
use Rattle.certificate.specs.declared.report.Outcome.TheVariants.{Closed, Settled, Spent, Full, Stopped}
use Rattle.certificate.specs.declared.report.Report.{Report}

-- versions are numbered from 1
abbrev pub newest_version : ℕ
newest_version = 3

-- each version has its own games, the newest has all
abbrev pub has_game : ℕ → GameKind → Bool
has_game version game = game_version game == version || version == newest_version

abbrev pub limits_of : ℕ → Limits
limits_of version = if version == newest_version then Wide else Narrow

-- the most rows of a sheet, and the most weights of a row
abbrev pub most_rows : Limits → ℕ
most_rows Narrow = 1048576
most_rows Wide = 16777216

abbrev pub most_moves : Limits → ℕ
most_moves Narrow = 32
most_moves Wide = 64

abbrev pub is_long : Sheet → Bool
is_long sheet = nat_lt (most_rows Narrow) (length sheet.rows)

-- whether the versions before the newest have the outcome
abbrev pub is_older : Outcome → Bool
is_older Closed = true
is_older Settled = true
is_older Spent = true
is_older Full = true
is_older Stopped = false

abbrev pub has_outcome : ℕ → Outcome → Bool
has_outcome version outcome = is_older outcome || version == newest_version

-- the position or a sheet is beyond the narrow limits, or the outcome is in no version before
abbrev pub needs_newest : Report → Bool
needs_newest r = not (is_narrow r.position) || (is_long r.one || (is_long r.two || not (is_older r.outcome)))

-- each report has one version: the first of its game, unless it needs the newest
abbrev pub version_of : Report → ℕ
version_of r = if needs_newest r then newest_version else game_version (kind_of r.position)
