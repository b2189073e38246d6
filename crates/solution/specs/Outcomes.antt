-- Which outcome is reported.
use Rattle.std.specs.Prelude.{◌≡◌, ◌≤◌, ℤ, ◌≤ℤ◌, ◌<ℤ◌, Bool, true, false, unsigned_abs}
use Rattle.certificate.specs.declared.report.Outcome.{Outcome}
use Rattle.certificate.specs.declared.report.Outcome.TheVariants.{Closed, Settled, Spent, Full, Stopped}
use Rattle.lazy_workers.specs.declared.summary.Found.{Found}

-- bounds whose gap is a number of 64 bits
pub record HasGap (x : Found) : Type 0 where
  pub lower : unsigned_abs x.lower ≤ 4000000000
  pub upper : unsigned_abs x.upper ≤ 4000000000

-- which outcome is that of a gap, by whether a search met a full board, and whether all turns are spent
abbrev pub IsOutcomeFor : ℤ → ℤ → ℤ → Bool → Type 0 → Outcome → Type 0
IsOutcomeFor gap asked resolution was_full AllSpent Closed = gap ≤ℤ asked
IsOutcomeFor gap asked resolution was_full AllSpent Settled = asked <ℤ gap × gap ≤ℤ resolution
IsOutcomeFor gap asked resolution was_full AllSpent Spent = (asked <ℤ gap) × (resolution <ℤ gap) × (was_full ≡ false) × AllSpent
IsOutcomeFor gap asked resolution was_full AllSpent Full = (asked <ℤ gap) × (resolution <ℤ gap) × (was_full ≡ true)
IsOutcomeFor gap asked resolution was_full AllSpent Stopped = (asked <ℤ gap) × (resolution <ℤ gap) × (was_full ≡ false) × (AllSpent → ⊥)
