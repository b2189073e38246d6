use Rattle.restricted_game.proofs.HeldLemmas.{few_steps}
use Rattle.restricted_game.proofs.few_steps.Goals as goal

pub returns : goal.returns
returns c = few_steps
