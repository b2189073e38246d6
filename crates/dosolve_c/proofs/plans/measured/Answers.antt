use Rattle.std.proofs.Common.{Err, subst}
use Rattle.position.specs.Games.{OfGame}
use Rattle.commands.specs.Measured.{most_states, sheet_of, IsMeasured}
use Rattle.dosolve_c.specs.Plans.{IsUnmeasured}
use Rattle.dosolve_c.proofs.PlanLemmas.{worst_case, too_many}
use Rattle.dosolve_c.proofs.plans.measured.Goals as goal

pub returns-in-Ok : goal.returns-in-Ok
returns-in-Ok c = worst_case c.args.found.now.report c.args.side c.in-Ok.case c.in-Ok.ensures

pub returns-in-Err-TooMany : goal.returns-in-Err-TooMany
returns-in-Err-TooMany c =
    let r = c.args.found.now.report in
    too_many r c.args.side _ (subst (λ e. OfGame r.position (λ S m. IsMeasured m (sheet_of c.args.side r) (most_states r) (Err e))) c.in-Err-TooMany.field-0-is c.in-Err-TooMany.ensures)

pub returns-in-Err-NoMemory : goal.returns-in-Err-NoMemory
returns-in-Err-NoMemory c = IsUnmeasured.no_memory
