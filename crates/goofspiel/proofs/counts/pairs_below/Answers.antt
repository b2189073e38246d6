use Rattle.std.proofs.Common.{◌+◌, ◌*◌, arith}
use Rattle.goofspiel.proofs.CountLemmas.{pairs_few, pairs_is}
use Rattle.goofspiel.proofs.counts.pairs_below.Goals as goal

pub returns-clause-is : goal.returns-clause-is
returns-clause-is c = pairs_is c.args.numbers c.args.size c.requires.numbers c.requires.size

pub returns-clause-few : goal.returns-clause-few
returns-clause-few c = pairs_few (15 * c.args.numbers + c.args.size) (omega (arith, c.requires.numbers, c.requires.size))
