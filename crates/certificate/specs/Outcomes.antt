-- Which outcome a report may tell.
use Rattle.std.specs.Prelude.{◌≡◌, ◌-ℤ◌, ◌≤ℤ◌, ◌<ℤ◌, ℤ, All}
use Rattle.certificate.specs.declared.report.Outcome.{Outcome}
use Rattle.certificate.specs.declared.report.Outcome.TheVariants.{Closed, Settled, Spent, Full, Stopped}
use Rattle.certificate.specs.declared.report.Report.{Report}

abbrev pub gap_of : Report → ℤ
gap_of r = r.upper -ℤ r.lower

-- the gap is wider than what was asked and than what the search reaches by itself
pub record IsWide (r : Report) : Type 0 where
  pub asked : r.asked <ℤ gap_of r
  pub resolution : r.resolution <ℤ gap_of r

abbrev pub Allows : Report → Outcome → Type 0
Allows r Closed = gap_of r ≤ℤ r.asked
Allows r Settled = r.asked <ℤ gap_of r × gap_of r ≤ℤ r.resolution
Allows r Spent = IsWide r × All (λ n. n ≡ r.turns) r.spent
Allows r Full = IsWide r
Allows r Stopped = IsWide r

-- the outcome is one that the numbers allow
abbrev pub IsAllowed : Report → Type 0
IsAllowed r = Allows r r.outcome
