use Rattle.std.proofs.Common.{subst, sym}
use Rattle.dosolve_c.specs.Plans.{IsUnread}
use Rattle.dosolve_c.proofs.PlanLemmas.{unread}
use Rattle.dosolve_c.proofs.plans.open_report.Goals as goal

pub returns-in-Ok : goal.returns-in-Ok
returns-in-Ok c = record { is = c.in-Ok.ensures.0; in_range = c.in-Ok.ensures.1 }

pub returns-in-Err : goal.returns-in-Err
returns-in-Err c = subst (IsUnread c.args.input.now) (sym c.status_of_fault.ensures) (unread c.args.input.now c.in-Err.fault c.in-Err.ensures)
