use Rattle.std.proofs.Common.{subst, sym}
use Rattle.dosolve_c.specs.Plans.{IsRootTold}
use Rattle.dosolve_c.proofs.PlanLemmas.{refused}
use Rattle.dosolve_c.proofs.plans.dosolve_root.Goals as goal

pub returns-in-Ok : goal.returns-in-Ok
returns-in-Ok c =
    subst (IsRootTold c.args.input.now c.args.root.now c.told_bounds.result) (sym c.status_of.ensures)
    (IsRootTold.found c.in-Ok.report c.in-Ok.ensures.found c.told_bounds.ensures)

pub returns-in-Err : goal.returns-in-Err
returns-in-Err c =
    subst (IsRootTold c.args.input.now c.args.root.now c.args.root.now) (sym c.status_of_refusal.ensures)
    (refused c.args.input.now c.args.root.now c.in-Err.error c.in-Err.ensures.fault)
