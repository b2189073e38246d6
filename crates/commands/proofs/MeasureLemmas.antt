-- Answers of exploit, by what was measured.
use Rattle.std.proofs.Common.{◌≡◌, ℕ, List, Ok, Err}
use Rattle.sim_game.specs.declared.Side.{Side}
use Rattle.certificate.specs.declared.report.Report.{Report}
use Rattle.exploit.specs.declared.WorstCase.{WorstCase}
use Rattle.exploit.specs.declared.WorstError.TheVariants.{TooMany}
use Rattle.position.specs.Games.{OfGame}
use Rattle.commands.specs.Checks.{report_in}
use Rattle.commands.specs.Measured.{IsMeasured, IsExploited, most_states, sheet_of, measured_text, full_text}

pub exploit_measured : (side : Side) (bytes : List ℕ) (r : Report) (case : WorstCase) → report_in bytes ≡ Ok r
    → OfGame r.position (λ S m. IsMeasured m (sheet_of side r) (most_states r) (Ok case)) → IsExploited side bytes 0 (measured_text side case.worth)
exploit_measured side bytes r case read (g, is, found) = IsExploited.measured r case read (g, is, (found.case, found.worst))

pub exploit_full : (side : Side) (bytes : List ℕ) (r : Report) (limit : ℕ) → report_in bytes ≡ Ok r
    → OfGame r.position (λ S m. IsMeasured m (sheet_of side r) (most_states r) (Err (TooMany limit))) → IsExploited side bytes 5 full_text
exploit_full side bytes r limit read (g, is, found) = IsExploited.full r read (g, is, found.fault.1)
