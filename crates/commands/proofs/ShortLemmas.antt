-- The reports that a search makes are no longer than a report may be.
use Rattle.std.proofs.Common.{◌≡◌, ◌⊎◌, ⊎_elim, inl, inr, ℕ, ◌≤◌, Bool, true, false, cond, List, ◌∷◌, [], ◌++◌, length, codes, decimal, refl, ap, ◌∙◌, arith}
use Rattle.std.proofs.lemmas.Fmt.{decimal_digit}
use Rattle.text.specs.Texts.{line_text}
use Rattle.fields.specs.declared.positions.GameKind.{GameKind}
use Rattle.fields.specs.declared.positions.GameKind.TheVariants.{Goofspiel}
use Rattle.fields.specs.Positions.{game_version, kind_of}
use Rattle.certificate.specs.declared.report.Report.{Report}
use Rattle.certificate.specs.Ranges.{IsInRange}
use Rattle.certificate.specs.Texts.{report_lines, report_text}
use Rattle.certificate.specs.Versions.{needs_newest, version_of}
use Rattle.certificate.proofs.LengthLemmas.{report_by_rows, report_short}
use Rattle.commands.specs.Checks.{newest_head, most_report}
use Rattle.devices.proofs.LimitLemmas.{limit_kept, limit_least}

-- ---- a version is the newest, or one of the two before it
game_old : (k : GameKind) → game_version k ≤ 2
game_old Goofspiel = omega arith
game_old k = omega arith

old_or_newest : (r : Report) → (version_of r ≤ 2) ⊎ (version_of r ≡ 3)
old_or_newest r = by_need (needs_newest r) where
  by_need : (b : Bool) → (cond b 3 (game_version (kind_of r.position)) ≤ 2) ⊎ (cond b 3 (game_version (kind_of r.position)) ≡ 3)
  by_need true = inr refl
  by_need false = inl (game_old (kind_of r.position))

-- ---- the first line
headed : (r : Report) → (rest : List ℕ) × (report_text r ≡ line_text (codes "dosolve" ∷ codes "report" ∷ decimal (version_of r) ∷ []) ++ rest)
unfolding report_lines
headed r = (_, refl)

newest_most : (r : Report) → version_of r ≡ 3 → most_report (report_text r) ≡ 4294967296
newest_most r is =
    let text = headed r in
    let head : line_text (codes "dosolve" ∷ codes "report" ∷ decimal (version_of r) ∷ []) ≡ newest_head =
    ap (λ (v : ℕ). line_text (codes "dosolve" ∷ codes "report" ∷ decimal v ∷ [])) is ∙ rw (decimal_digit 3 (omega arith)) refl in
    ap most_report (text.1 ∙ ap (λ (line : List ℕ). line ++ text.0) head) ∙ limit_kept 1073741824 4294967296 newest_head newest_head text.0 (omega arith)

pub short_enough : (r : Report) → IsInRange r → length r.one.rows ≤ 1048576 → length r.two.rows ≤ 1048576 → length (report_text r) ≤ most_report (report_text r)
short_enough r fits one two = ⊎_elim
    (λ (old : version_of r ≤ 2).
    let least = limit_least 1073741824 4294967296 newest_head (omega arith) (report_text r) in omega (arith, report_short r fits old, least))
    (λ (new : version_of r ≡ 3). let most = newest_most r new in omega (arith, report_by_rows r fits, one, two, most))
    (old_or_newest r)
