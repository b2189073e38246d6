use Rattle.position.specs.declared.reading.TheConstants.{MOST_TABLE_BYTES}
use Rattle.position.specs.declared.games.InputError.TheVariants as errors
use Rattle.commands.specs.declared.reports.ReportFault.TheVariants as faults
use Rattle.commands.specs.Texts.{input_text}
use Rattle.commands.specs.Reports.{fault_text}
use Rattle.commands.specs.Bounded.{IsBounded}
use Rattle.commands.specs.Checks.{most_report, IsChecked}
use Rattle.commands.specs.Measured.{IsExploited}
use Rattle.commands.specs.Matches.{IsPlayedMatch}
use Rattle.commands.specs.Runs.{IsSolved}
use Rattle.commands.proofs.RunLemmas.{long_as, too_long}
use Rattle.commands.proofs.CheckLemmas.{report_too_long}
use Rattle.commands.proofs.run.too_long.Goals as goal

pub returns-in-Solve : goal.returns-in-Solve
returns-in-Solve c =
    rw c.in-Solve.is (long_as IsSolved _ (λ _. MOST_TABLE_BYTES) 2 (input_text errors.TooLong) c.refused.result
    (λ may_stop bytes long. IsSolved.refused errors.TooLong (too_long bytes long)) c.refused.ensures)

pub returns-in-Bounds : goal.returns-in-Bounds
returns-in-Bounds c =
    rw c.in-Bounds.is (long_as (λ _. IsBounded) _ (λ _. MOST_TABLE_BYTES) 2 (input_text errors.TooLong) c.refused-in-Bounds.result
    (λ may_stop bytes long. IsBounded.refused errors.TooLong (too_long bytes long)) c.refused-in-Bounds.ensures)

pub returns-in-Check : goal.returns-in-Check
returns-in-Check c =
    rw c.in-Check.is (long_as (λ _. IsChecked) _ most_report 9 (fault_text faults.TooLong) c.faulty.result
    (λ may_stop bytes long. IsChecked.unread faults.TooLong (report_too_long bytes long)) c.faulty.ensures)

pub returns-in-Exploit : goal.returns-in-Exploit
returns-in-Exploit c = let side = c.in-Exploit.field-0 in
    rw c.in-Exploit.is (long_as (λ _. IsExploited side) _ most_report 9 (fault_text faults.TooLong) c.faulty-in-Exploit.result
    (λ may_stop bytes long. IsExploited.unread faults.TooLong (report_too_long bytes long)) c.faulty-in-Exploit.ensures)

pub returns-in-Play : goal.returns-in-Play
returns-in-Play c = let games = c.in-Play.games in
    let seed = c.in-Play.seed in
    rw c.in-Play.is (long_as (λ _. IsPlayedMatch games seed) _ most_report 9 (fault_text faults.TooLong) c.faulty-in-Play.result
    (λ may_stop bytes long. IsPlayedMatch.unread faults.TooLong (report_too_long bytes long)) c.faulty-in-Play.ensures)
