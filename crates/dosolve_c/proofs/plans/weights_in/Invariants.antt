use Rattle.std.proofs.Common.{◌≡◌, take}
use Rattle.dosolve_c.specs.Plans.{weights_in}
use Rattle.dosolve_c.proofs.plans.weights_in.Given as goal

abbrev pub invariant-loop-row : goal.invariant-loop-row
invariant-loop-row l = l.all.items ≡ weights_in (take l.row-index l.rows)
