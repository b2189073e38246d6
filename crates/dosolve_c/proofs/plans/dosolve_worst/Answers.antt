use Rattle.std.proofs.Common.{refl}
use Rattle.sim_game.specs.declared.Side.TheVariants.{One, Two}
use Rattle.dosolve_c.specs.Plans.{AreWorstTold}
use Rattle.dosolve_c.proofs.PlanLemmas.{no_worst}
use Rattle.dosolve_c.proofs.plans.dosolve_worst.Goals as goal

pub returns-in-Ok-worst_told-2 : goal.returns-in-Ok-worst_told-2
returns-in-Ok-worst_told-2 c = AreWorstTold.found c.in-Ok.found.report c.in-Ok.ensures c.in-Ok-worst_told.ensures c.in-Ok-worst_told-2.ensures

pub returns-in-Ok-worst_told : goal.returns-in-Ok-worst_told
returns-in-Ok-worst_told c =
    no_worst c.args.input.now c.args.one.now c.args.two.now Two c.in-Ok.found.report c.in-Err-worst_told-2.status c.in-Ok.ensures c.in-Err-worst_told-2.ensures

pub returns-in-Ok : goal.returns-in-Ok
returns-in-Ok c = no_worst c.args.input.now c.args.one.now c.args.two.now One c.in-Ok.found.report c.in-Err-worst_told.status c.in-Ok.ensures c.in-Err-worst_told.ensures

pub returns : goal.returns
returns c = AreWorstTold.fault c.in-Err.status c.in-Err.ensures refl refl
