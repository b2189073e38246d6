-- The answers of check.
use Rattle.std.proofs.Common.{◌≡◌, ◌≢◌, ℕ, ◌+◌, ◌≤◌, List, length, Ok, Err, Some, None, refl, arith}
use Rattle.std.proofs.lemmas.Bool.{le-ltb, lt-ltb, eq-eqb}
use Rattle.plan_book.proofs.BookLemmas.{eqb_other}
use Rattle.certificate.specs.declared.error.TextError.{TextError}
use Rattle.certificate.specs.declared.error.TextError.TheVariants as unread
use Rattle.certificate.specs.declared.report.Report.{Report}
use Rattle.certificate.specs.Readers.{Fails}
use Rattle.certificate.specs.Reading.{named_report}
use Rattle.certificate.specs.Versions.{limits_of, version_of}
pub use Rattle.position.proofs.LimitLemmas.{built_of}
use Rattle.position.specs.declared.games.InputError.{InputError}
use Rattle.position.specs.Games.{fault_of}
use Rattle.commands.specs.declared.reports.ReportFault.TheVariants as faults
use Rattle.commands.specs.Checks.{most_report, report_in}

-- ---- the report of the bytes
pub report_too_long : (bytes : List ℕ) → length bytes ≡ most_report bytes + 1 → report_in bytes ≡ Err faults.TooLong
unfolding report_in
report_too_long bytes is = rw (lt-ltb (most_report bytes) (length bytes) (omega (arith, is))) refl

module _ (bytes : List ℕ) (within : length bytes ≤ most_report bytes) where
  module _ (version : ℕ) (r : Report) (is : named_report bytes ≡ Ok (version, r)) where
    pub report_built : fault_of (limits_of version) r.position ≡ None → version_of r ≡ version → report_in bytes ≡ Ok r
    unfolding report_in
    report_built none own = rw (le-ltb (most_report bytes) (length bytes) within, is, none, eq-eqb (version_of r) version own) refl

    pub report_other : fault_of (limits_of version) r.position ≡ None → version_of r ≢ version → report_in bytes ≡ Err (faults.Text unread.Head)
    unfolding report_in
    report_other none other = rw (le-ltb (most_report bytes) (length bytes) within, is, none, eqb_other (version_of r) version other) refl

    pub report_unbuilt : (e : InputError) → fault_of (limits_of version) r.position ≡ Some e → report_in bytes ≡ Err (faults.Position e)
    unfolding report_in
    report_unbuilt e some = rw (le-ltb (most_report bytes) (length bytes) within, is, some) refl

  pub report_unread : (e : TextError) → Fails e (named_report bytes) → ¬ (faults.Text e ≡ faults.Text unread.NoMemory) → report_in bytes ≡ Err (faults.Text e)
  unfolding report_in
  report_unread unread.NoMemory gives not = absurd (not refl)
  report_unread e gives not = rw (le-ltb (most_report bytes) (length bytes) within, gives) refl
