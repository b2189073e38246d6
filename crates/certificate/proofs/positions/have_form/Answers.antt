use Rattle.std.proofs.Common.{sym, ◌∙◌}
use Rattle.certificate.proofs.LineLemmas.{form_more, form_none, form_done}
use Rattle.certificate.proofs.positions.have_form.Goals as goal

pub returns-then-not-next_has_form : goal.returns-then-not-next_has_form
returns-then-not-next_has_form c =
    form_none c.args.rows.now c.loop-row.row-index _ c.loop-row.fields _ c.loop-row-test.true (sym c.next_has_form.ensures.form ∙ c.if-not-next_has_form.true) c.loop-row.invariant

pub loop-row-preserved : goal.loop-row-preserved
loop-row-preserved c =
    rw c.next_has_form.ensures.rest
    (form_more c.args.rows.now c.loop-row.row-index _ c.loop-row.fields _ c.loop-row-test.true (sym c.next_has_form.ensures.form ∙ c.if-not-next_has_form.false) c.loop-row.invariant)

pub returns : goal.returns
returns c = c.is_empty.ensures ∙ form_done c.args.rows.now c.loop-row.row-index c.loop-row.fields _ c.loop-row-test.false c.loop-row.invariant
