-- The one text of each report: lines of fields.
use Rattle.std.specs.Prelude.{ℕ, List, [], ◌∷◌, ◌++◌, length, map, codes, decimal}
use Rattle.std.specs.Fmt.{signed_decimal}
use Rattle.plan_book.specs.declared.SheetRow.{SheetRow}
use Rattle.certificate.specs.declared.report.Outcome.{Outcome}
use Rattle.certificate.specs.declared.report.Outcome.TheVariants.{Closed, Settled, Spent, Full, Stopped}
use Rattle.certificate.specs.declared.report.Report.{Report}
use Rattle.certificate.specs.Versions.{version_of}
use Rattle.certificate.specs.Positions.{position_fields}
use Rattle.text.specs.Texts.{text_of}

abbrev pub outcome_word : Outcome → List ℕ
outcome_word Closed = codes "closed"
outcome_word Settled = codes "settled"
outcome_word Spent = codes "spent"
outcome_word Full = codes "full"
outcome_word Stopped = codes "stopped"

abbrev pub row_fields : SheetRow → List (List ℕ)
row_fields row = decimal row.key ∷ signed_decimal row.bound ∷ map decimal row.weights

-- how many rows there are, and the rows
unfoldable pub sheet_lines : List ℕ → List SheetRow → List (List (List ℕ))
sheet_lines word rows = (word ∷ decimal (length rows) ∷ []) ∷ map row_fields rows

unfoldable pub report_lines : Report → List (List (List ℕ))
report_lines r =
    (codes "dosolve" ∷ codes "report" ∷ decimal (version_of r) ∷ [])
    ∷ (codes "game" ∷ position_fields r.position)
    ∷ (codes "weight" ∷ decimal r.weight ∷ [])
    ∷ (codes "turns" ∷ decimal r.turns ∷ [])
    ∷ (codes "asked" ∷ signed_decimal r.asked ∷ [])
    ∷ (codes "resolution" ∷ signed_decimal r.resolution ∷ [])
    ∷ (codes "outcome" ∷ outcome_word r.outcome ∷ [])
    ∷ (codes "lower" ∷ signed_decimal r.lower ∷ [])
    ∷ (codes "upper" ∷ signed_decimal r.upper ∷ [])
    ∷ (codes "spent" ∷ map decimal r.spent)
    ∷ (sheet_lines (codes "one") r.one.rows ++ (sheet_lines (codes "two") r.two.rows ++ (codes "end" ∷ []) ∷ []))

abbrev pub report_text : Report → List ℕ
report_text r = text_of (report_lines r)
