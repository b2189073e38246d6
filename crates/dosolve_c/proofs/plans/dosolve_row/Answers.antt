use Rattle.std.proofs.Common.{◌≡◌, refl, subst}
use Rattle.dosolve_c.specs.Calls.{put_over}
use Rattle.dosolve_c.specs.Plans.{IsRowTold}
use Rattle.dosolve_c.proofs.plans.dosolve_row.Goals as goal

pub returns-in-Some : goal.returns-in-Some
returns-in-Some c =
    IsRowTold.found c.in-Ok.plan.side c.in-Ok.plan.found.report c.in-Some.found.now c.in-Ok.ensures c.in-Some.ensures
    (subst (λ t. c.put.new.output ≡ put_over t c.args.weights.now) c.as_slice.ensures c.put.ensures) c.told_row.ensures

pub returns-in-Ok : goal.returns-in-Ok
returns-in-Ok c = IsRowTold.no_row c.in-Ok.plan.side c.in-Ok.plan.found.report c.in-Ok.ensures c.in-None.ensures refl refl

pub returns : goal.returns
returns c = IsRowTold.fault c.in-Err.status c.in-Err.ensures refl refl
