use Rattle.std.proofs.Common.{◌≡◌, ◌∙◌, length, map, ap, refl, subst}
use Rattle.commands.specs.Measured.{sheet_of}
use Rattle.dosolve_c.specs.Calls.{put_over}
use Rattle.dosolve_c.specs.Plans.{row_told, weights_in, IsFault, IsUnread, IsPlanTold}
use Rattle.dosolve_c.proofs.plans.dosolve_plan.Goals as goal

pub returns-in-Ok-list_rows : goal.returns-in-Ok-list_rows
returns-in-Ok-list_rows c =
    let s = c.in-Ok.plan.side in let r = c.in-Ok.plan.found.report in let same = c.sheet_of-sheet.ensures in
    let rows : c.as_slice.result.now ≡ (sheet_of s r).rows = c.as_slice.ensures ∙ ap (λ x. x.rows) same in
    let told = c.in-Ok-list_rows.ensures.rows ∙ ap (map row_told) rows in
    let weights = c.in-Ok-list_rows.ensures.weights ∙ ap weights_in rows in
    let counted = c.len.ensures ∙ ap (λ x. length x.rows) same in
    let weighed = c.len-in-Ok-list_rows.ensures ∙ (c.in-Ok-list_rows.all.weights.ok.0 ∙ ap length weights) in
    let total = ap (λ x. x.total) same in
    IsPlanTold.found s r c.in-Ok.ensures
    (subst (λ t. c.put.new.output ≡ put_over t c.args.rows.now) (c.deref.ensures.value ∙ told) c.put.ensures)
    (subst (λ t. c.put-in-Ok-list_rows.new.output ≡ put_over t c.args.weights.now) (c.deref-in-Ok-list_rows.ensures.value ∙ weights) c.put-in-Ok-list_rows.ensures)
    (λ i. record { rows = counted i; weights = weighed i; total = total i })

pub returns-in-Ok : goal.returns-in-Ok
returns-in-Ok c = IsPlanTold.fault 8 (IsFault.unread 8 IsUnread.no_memory) refl refl refl

pub returns : goal.returns
returns c = IsPlanTold.fault c.in-Err.status c.in-Err.ensures refl refl refl
