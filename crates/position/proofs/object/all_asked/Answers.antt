use Rattle.sim_game.specs.declared.Limits.TheVariants.{Narrow}
use Rattle.fields.proofs.PositionLemmas.{asked_wide}
use Rattle.position.proofs.object.all_asked.Goals as goal

pub returns-in-Wide-clause-exact : goal.returns-in-Wide-clause-exact
returns-in-Wide-clause-exact c = rw c.in-Wide.is c.all_asked_wide.ensures.exact

pub returns-in-Wide-clause-fits : goal.returns-in-Wide-clause-fits
returns-in-Wide-clause-fits c = c.all_asked_wide.ensures.fits

pub returns-in-Ok-clause-exact : goal.returns-in-Ok-clause-exact
returns-in-Ok-clause-exact c = rw c.in-Narrow.is c.in-Ok.ensures.exact

pub returns-in-Ok-clause-fits : goal.returns-in-Ok-clause-fits
returns-in-Ok-clause-fits c = asked_wide Narrow c.in-Ok.values c.in-Ok.ensures.fits

pub returns-in-Err-clause-exact : goal.returns-in-Err-clause-exact
returns-in-Err-clause-exact c = rw c.in-Narrow.is c.in-Err.ensures.exact
