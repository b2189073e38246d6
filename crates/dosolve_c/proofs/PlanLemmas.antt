-- Answers in numbers.
use Rattle.std.proofs.Common.{◌≡◌, ℕ, List, Ok, Err, refl}
use Rattle.sim_game.specs.declared.Side.{Side}
use Rattle.exploit.specs.declared.WorstCase.{WorstCase}
use Rattle.exploit.specs.declared.WorstError.TheVariants.{TooMany}
use Rattle.certificate.specs.declared.error.TextError.TheVariants as texts
use Rattle.certificate.specs.declared.report.Report.{Report}
use Rattle.position.specs.declared.games.InputError.{InputError}
use Rattle.position.specs.declared.games.InputError.TheVariants as errors
use Rattle.position.specs.Games.{OfGame}
use Rattle.position.specs.Objects.{Fails}
use Rattle.position.specs.Position.{position_of}
use Rattle.commands.specs.declared.reports.ReportFault.{ReportFault}
use Rattle.commands.specs.declared.reports.ReportFault.TheVariants as faults
use Rattle.commands.specs.Checks.{report_in}
use Rattle.commands.specs.Measured.{most_states, sheet_of, IsMeasured}
use Rattle.dosolve_c.specs.declared.plans.RootBounds.{RootBounds}
use Rattle.dosolve_c.specs.declared.plans.WorstPayoff.{WorstPayoff}
use Rattle.dosolve_c.specs.Plans.{status_of_fault, status_of_refusal, IsReportIn, IsPlanIn, IsUnread, IsFault, IsRootTold, IsWorstOf, IsUnmeasured, AreRepliesTold, AreWorstTold}

-- ---- what is wrong
pub refused : (bytes : List ℕ) (root : RootBounds) (e : InputError) → Fails e (position_of bytes) → IsRootTold bytes root root (status_of_refusal e)
refused bytes root errors.NoMemory is = IsRootTold.no_memory refl
refused bytes root e is = IsRootTold.refused e is refl

pub unread : (bytes : List ℕ) (f : ReportFault) → (¬ (f ≡ faults.Text texts.NoMemory) → report_in bytes ≡ Err f) → IsUnread bytes (status_of_fault f)
unread bytes (faults.Text texts.NoMemory) is = IsUnread.no_memory
unread bytes f is = IsUnread.fault f (is (λ e. absurd (cc)))

-- ---- what was measured
pub worst_case : (r : Report) (side : Side) (case : WorstCase) → OfGame r.position (λ S m. IsMeasured m (sheet_of side r) (most_states r) (Ok case)) → IsWorstOf side r case
worst_case r side case (g, is, found) = (g, is, (found.case, found.worst))

pub too_many : (r : Report) (side : Side) (limit : ℕ) → OfGame r.position (λ S m. IsMeasured m (sheet_of side r) (most_states r) (Err (TooMany limit))) → IsUnmeasured side r 5
too_many r side limit (g, is, found) = IsUnmeasured.full (g, is, found.fault.1)

-- nothing is written where the plan was not measured
pub no_replies : (side : ℕ) (bytes keys moves : List ℕ) (worst : WorstPayoff) (s : Side) (r : Report) (status : ℕ) → IsPlanIn side bytes s r → IsUnmeasured s r status
    → AreRepliesTold side bytes keys keys moves moves worst worst status
no_replies side bytes keys moves worst s r _ is (IsUnmeasured.full more) = AreRepliesTold.full s r is more refl refl refl
no_replies side bytes keys moves worst s r _ is IsUnmeasured.no_memory = AreRepliesTold.fault 8 (IsFault.unread 8 IsUnread.no_memory) refl refl refl

pub no_worst : (bytes : List ℕ) (one two : WorstPayoff) (s : Side) (r : Report) (status : ℕ) → IsReportIn bytes r → IsUnmeasured s r status
    → AreWorstTold bytes one one two two status
no_worst bytes one two s r _ is (IsUnmeasured.full more) = AreWorstTold.full s r is more refl refl
no_worst bytes one two s r _ is IsUnmeasured.no_memory = AreWorstTold.fault 8 IsUnread.no_memory refl refl
