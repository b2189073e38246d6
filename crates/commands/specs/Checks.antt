-- What check answers to the bytes of a report.
use Rattle.std.specs.Prelude.{◌≡◌, ◌==◌, ℕ, List, [], ◌∷◌, ◌++◌, codes, length, nat_lt, if◌then◌else◌, Option, None, Some, Result, Ok, Err}
use Rattle.certificate.specs.declared.error.TextError.{TextError}
use Rattle.certificate.specs.declared.report.Report.{Report}
use Rattle.certificate.specs.declared.error.TextError.TheVariants as errors
use Rattle.certificate.specs.Reading.{named_report}
use Rattle.certificate.specs.Versions.{limits_of, version_of}
use Rattle.position.specs.declared.games.InputError.{InputError}
use Rattle.position.specs.Games.{fault_of}
use Rattle.checker.specs.declared.verdict.Why.{Why}
use Rattle.checker.specs.declared.verdict.Verdict.{Verdict}
use Rattle.checker.specs.declared.verdict.Verdict.TheVariants.{Accepted, Refused}
use Rattle.checker.specs.Verdicts.{IsVerdict}
use Rattle.commands.specs.declared.reports.ReportFault.{ReportFault}
use Rattle.commands.specs.declared.reports.ReportFault.TheVariants as faults
use Rattle.position.specs.Games.{OfGame}
use Rattle.devices.specs.Taken.{limit_for}
use Rattle.commands.specs.Reports.{accepted_text, fault_text}

-- the first line of a report of version 3
abbrev pub newest_head : List ℕ
newest_head = codes "dosolve report 3" ++ 10 ∷ []

-- how many bytes a report may have, by its first line
abbrev pub most_report : List ℕ → ℕ
most_report bytes = limit_for 1073741824 newest_head 4294967296 bytes

-- a report whose position breaks no rule of its game within the limits of its version, under its own version
abbrev pub if_built : Option InputError → ℕ → Report → Result Report ReportFault
if_built None version r = if version_of r == version then Ok r else Err (faults.Text errors.Head)
if_built (Some e) version r = Err (faults.Position e)

abbrev pub if_read : Result (ℕ × Report) TextError → Result Report ReportFault
if_read (Ok x) = if_built (fault_of (limits_of x.0) x.1.position) x.0 x.1
if_read (Err e) = Err (faults.Text e)

-- the report of the bytes, or the first fault: of their length, of the text, of the position, of the version that they name
unfoldable pub report_in : List ℕ → Result Report ReportFault
report_in bytes = if nat_lt (most_report bytes) (length bytes) then Err faults.TooLong else if_read (named_report bytes)

-- the checker's verdict on the report, for the game of its position
abbrev pub IsJudged : Report → Verdict → Type 0
IsJudged r v = OfGame r.position (λ S m. IsVerdict m r v)

-- the status and the text that check answers to the bytes: what is wrong first, or that nothing is
pub data IsChecked (bytes : List ℕ) : ℕ → List ℕ → Type 0 where
  accepted : (r : Report) → report_in bytes ≡ Ok r → IsJudged r Accepted → IsChecked bytes 0 (accepted_text r)
  refused : (r : Report) (w : Why) → report_in bytes ≡ Ok r → IsJudged r (Refused w)
      → IsChecked bytes 9 (fault_text (faults.Refused w))
  unread : (f : ReportFault) → report_in bytes ≡ Err f → IsChecked bytes 9 (fault_text f)
