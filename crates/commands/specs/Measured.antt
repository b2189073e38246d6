-- What is answered to the bytes of a report, the plan of one side of which is measured.
use Rattle.std.specs.Prelude.{◌≡◌, ℕ, List, [], ◌∷◌, ◌++◌, codes, decimal, Result, Ok, Err, IfOk, IfErr}
use Rattle.std.specs.Fmt.{signed_decimal}
use Rattle.sim_game.specs.declared.Side.{Side}
use Rattle.sim_game.specs.declared.Side.TheVariants.{One, Two}
use Rattle.sim_game.specs.Model.{GameModel}
use Rattle.plan_book.specs.declared.Sheet.{Sheet}
use Rattle.exploit.specs.declared.Worth.{Worth}
use Rattle.exploit.specs.declared.Worth.TheVariants.{Exact, Between}
use Rattle.exploit.specs.declared.WorstCase.{WorstCase}
use Rattle.exploit.specs.declared.WorstError.{WorstError}
use Rattle.exploit.specs.Replies.{HasMore, IsWorstCase, IsWorstError}
use Rattle.exploit.specs.Worst.{IsWorst}
use Rattle.certificate.specs.declared.report.Report.{Report}
use Rattle.certificate.specs.Versions.{limits_of, most_rows, version_of}
use Rattle.position.specs.Games.{OfGame}
use Rattle.text.specs.Texts.{side_word}
use Rattle.commands.specs.declared.reports.ReportFault.{ReportFault}
use Rattle.commands.specs.Reports.{fault_text}
use Rattle.commands.specs.Checks.{report_in}

-- ---- the line
abbrev pub worth_words : Worth → List ℕ
worth_words (Exact amount base power) =
    codes " exact " ++ (signed_decimal amount ++ 32 ∷ (decimal base ++ 32 ∷ decimal power))
worth_words (Between low high) = codes " between " ++ (signed_decimal low ++ 32 ∷ signed_decimal high)

abbrev pub measured_text : Side → Worth → List ℕ
measured_text side worth = codes "exploit " ++ (side_word side ++ (worth_words worth ++ 10 ∷ []))

abbrev pub full_text : List ℕ
full_text = codes "states full\n"

-- ---- answers
-- to how many states that are no ends a sheet of a report may come, by its version
abbrev pub most_states : Report → ℕ
most_states r = most_rows (limits_of (version_of r))

abbrev pub sheet_of : Side → Report → Sheet
sheet_of One r = r.one
sheet_of Two r = r.two

-- the case is the sheet's worst, which no plan of the other side undercuts; or the sheet comes to too many states
pub record IsMeasured {S : Type 0} (m : GameModel S) (sheet : Sheet) (most : ℕ)
    (found : Result WorstCase WorstError) : Type 0 where
  pub case : IfOk found (IsWorstCase m sheet most)
  pub fault : IfErr found (IsWorstError m sheet most)
  pub worst : IsWorst m sheet

-- the status and the text that exploit answers to the bytes, for the sheet of the side
pub data IsExploited (side : Side) (bytes : List ℕ) : ℕ → List ℕ → Type 0 where
  measured : (r : Report) (case : WorstCase) → report_in bytes ≡ Ok r
      → OfGame r.position (λ S m. IsWorstCase m (sheet_of side r) (most_states r) case × IsWorst m (sheet_of side r))
      → IsExploited side bytes 0 (measured_text side case.worth)
  full : (r : Report) → report_in bytes ≡ Ok r → OfGame r.position (λ S m. HasMore m (sheet_of side r) (most_states r))
      → IsExploited side bytes 5 full_text
  unread : (f : ReportFault) → report_in bytes ≡ Err f → IsExploited side bytes 9 (fault_text f)
