use Rattle.referee.proofs.TallyLemmas.{one_tally}
use Rattle.referee.proofs.one_tally.Goals as goal

pub returns : goal.returns
returns c = one_tally
