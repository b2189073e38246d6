use Rattle.std.proofs.Common.{sym}
use Rattle.dosolve_c.specs.Plans.{IsFault}
use Rattle.dosolve_c.proofs.plans.opened.Goals as goal

pub returns-in-Ok : goal.returns-in-Ok
returns-in-Ok c = record { side_is = sym c.in-Some.ensures; report = c.in-Ok.ensures }

pub returns-in-Err : goal.returns-in-Err
returns-in-Err c = IsFault.unread c.in-Err.status c.in-Err.ensures

pub returns-in-None : goal.returns-in-None
returns-in-None c = IsFault.no_side (sym c.in-None.ensures)
