use Rattle.dosolve_c.proofs.plans.worst_told.Goals as goal

pub returns-in-Ok : goal.returns-in-Ok
returns-in-Ok c = record { case = c.in-Ok.case; is_worst = c.in-Ok.ensures; numbers = c.told_case.ensures }
