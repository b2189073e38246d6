use Rattle.sim_game.specs.declared.Limits.TheVariants.{Narrow}
use Rattle.position.proofs.LimitLemmas.{wide_too, accepted_small, small_accepted, narrow_width}
use Rattle.position.proofs.games.narrow_rules_ask_more.Goals as goal

pub returns-clause-wider : goal.returns-clause-wider
returns-clause-wider c = wide_too Narrow

pub returns-clause-exact : goal.returns-clause-exact
returns-clause-exact c = λ text fits wide. (accepted_small text, λ small. small_accepted text fits small wide)

pub returns-clause-width : goal.returns-clause-width
returns-clause-width c = narrow_width
