use Rattle.std.proofs.Common.{◌≡◌, ◌∙◌, map, ap, refl, subst}
use Rattle.dosolve_c.specs.Calls.{put_over}
use Rattle.dosolve_c.specs.Plans.{IsFault, IsUnread, AreRepliesTold}
use Rattle.dosolve_c.proofs.PlanLemmas.{no_replies}
use Rattle.dosolve_c.proofs.plans.dosolve_replies.Goals as goal

pub returns-in-Ok-split : goal.returns-in-Ok-split
returns-in-Ok-split c =
    let keys = c.deref.ensures.value ∙ (c.in-Ok-split.ensures.keys ∙ ap (map (λ x. x.key)) c.as_slice.ensures) in
    let moves = c.deref-in-Ok-split.ensures.value ∙ (c.in-Ok-split.ensures.moves ∙ ap (map (λ x. x.place)) c.as_slice.ensures) in
    AreRepliesTold.found c.in-Ok.plan.side c.in-Ok.plan.found.report c.in-Ok-measured.case c.in-Ok.ensures c.in-Ok-measured.ensures
    (subst (λ t. c.put.new.output ≡ put_over t c.args.keys.now) keys c.put.ensures)
    (subst (λ t. c.put-in-Ok-split.new.output ≡ put_over t c.args.moves.now) moves c.put-in-Ok-split.ensures) c.told_case.ensures

pub returns-in-Ok-measured : goal.returns-in-Ok-measured
returns-in-Ok-measured c = AreRepliesTold.fault 8 (IsFault.unread 8 IsUnread.no_memory) refl refl refl

pub returns-in-Ok : goal.returns-in-Ok
returns-in-Ok c =
    no_replies c.args.side c.args.input.now c.args.keys.now c.args.moves.now c.args.worst.now c.in-Ok.plan.side c.in-Ok.plan.found.report
    c.in-Err-measured.status c.in-Ok.ensures c.in-Err-measured.ensures

pub returns : goal.returns
returns c = AreRepliesTold.fault c.in-Err.status c.in-Err.ensures refl refl refl
