use Rattle.std.proofs.Common.{[], ◌∷◌, ◌++◌, codes, sym}
use Rattle.std.proofs.lemmas.Grind.{flat_map-append}
use Rattle.std.proofs.lemmas.Result.{on_ok_weaker}
use Rattle.text.specs.Texts.{line_text}
use Rattle.certificate.specs.Texts.{sheet_lines, report_lines}
use Rattle.text.proofs.TextLemmas.{then, as_text}
use Rattle.certificate.proofs.writing.add_report.Goals as goal

pub returns : goal.returns
unfolding report_lines
returns c =
    let last = (codes "end" ∷ []) ∷ [] in
    let two = sheet_lines (codes "two") c.args.r.now.two.rows in
    on_ok_weaker c.word.result (λ added.
    then (rw c.version.ensures at c.in_ok-named.ensures) (then c.in_ok-add_position.ensures (
    then c.in_ok-named-2.ensures (then c.in_ok-named-3.ensures (then c.in_ok-named-4.ensures (then c.in_ok-named-5.ensures (
    then c.in_ok-add_outcome.ensures (then c.in_ok-named-6.ensures (then c.in_ok-named-7.ensures (then (rw c.as_slice.ensures at c.in_ok-add_spent.ensures) (
    as_text (sym (flat_map-append line_text (sheet_lines (codes "one") c.args.r.now.one.rows) (two ++ last))) (then (rw c.as_slice-2.ensures at c.in_ok-add_sheet.ensures) (
    as_text (sym (flat_map-append line_text two last)) (then (rw c.as_slice-3.ensures at c.in_ok-add_sheet-2.ensures) added)))))))))))))) c.word.ensures
