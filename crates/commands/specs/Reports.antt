-- The texts of check, each one line.
use Rattle.std.specs.Prelude.{ℕ, List, [], ◌∷◌, ◌++◌, codes, decimal}
use Rattle.std.specs.Fmt.{signed_decimal}
use Rattle.sim_game.specs.declared.Side.{Side}
use Rattle.certificate.specs.declared.error.TextError.{TextError}
use Rattle.certificate.specs.declared.error.TextError.TheVariants as errors
use Rattle.certificate.specs.declared.report.Report.{Report}
use Rattle.certificate.specs.Texts.{outcome_word}
use Rattle.position.specs.declared.games.InputError.{InputError}
use Rattle.position.specs.Games.{code_of}
use Rattle.checker.specs.declared.verdict.Why.{Why}
use Rattle.checker.specs.declared.verdict.Why.TheVariants.{Weights, Bound, Idle, Root, Outside, OutcomeWrong, ResolutionWrong}
use Rattle.commands.specs.declared.reports.ReportFault.{ReportFault}
use Rattle.commands.specs.declared.reports.ReportFault.TheVariants.{TooLong, Text, Position, Refused}
use Rattle.text.specs.Texts.{side_word}

-- the bounds and the outcome of a report that is accepted
abbrev pub accepted_text : Report → List ℕ
accepted_text r =
    codes "accepted " ++ (signed_decimal r.lower
    ++ 32 ∷ (signed_decimal r.upper ++ 32 ∷ (outcome_word r.outcome ++ 10 ∷ [])))

-- ---- why a report is refused
-- want of memory has no text
abbrev pub unread_text : TextError → List ℕ
unread_text errors.Head = codes "head"
unread_text (errors.Line number) = codes "line " ++ decimal number
unread_text (errors.Number number) = codes "number " ++ decimal number
unread_text (errors.Order number) = codes "order " ++ decimal number
unread_text errors.Short = codes "short"
unread_text errors.Tail = codes "tail"
unread_text errors.NoMemory = []

-- the number of the rule that the position breaks
abbrev pub position_text : InputError → List ℕ
position_text e = codes "position " ++ decimal (code_of e)

-- the side and the key of a row
abbrev pub row_text : Side → ℕ → List ℕ
row_text side key = side_word side ++ 32 ∷ decimal key

abbrev pub why_text : Why → List ℕ
why_text (Weights side key) = codes "weights " ++ row_text side key
why_text (Bound side key reply sum need) =
    codes "bound " ++ (row_text side key
    ++ 32 ∷ (decimal reply ++ 32 ∷ (signed_decimal sum ++ 32 ∷ signed_decimal need)))
why_text (Idle side key) = codes "idle " ++ row_text side key
why_text (Root side) = codes "root " ++ side_word side
why_text (Outside side key) = codes "outside " ++ row_text side key
why_text OutcomeWrong = codes "outcome"
why_text (ResolutionWrong want) = codes "resolution " ++ signed_decimal want

abbrev pub fault_words : ReportFault → List ℕ
fault_words TooLong = codes "report too long"
fault_words (Text e) = codes "report " ++ unread_text e
fault_words (Position e) = codes "report " ++ position_text e
fault_words (Refused w) = codes "refused " ++ why_text w

abbrev pub fault_text : ReportFault → List ℕ
fault_text f = fault_words f ++ 10 ∷ []
