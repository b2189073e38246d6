use Rattle.std.proofs.Common.{sym}
use Rattle.state_key.proofs.SetLemmas.{members_count}
use Rattle.goofspiel.proofs.sets.size.Goals as goal

pub returns : goal.returns
returns c = λ low. sym (members_count 13 low c.args.set c.requires)
