use Rattle.std.proofs.Common.{arith}
use Rattle.goofspiel.proofs.CountLemmas.{choice_is, choose_few}
use Rattle.goofspiel.proofs.counts.choose.Goals as goal

pub returns-clause-is : goal.returns-clause-is
returns-clause-is c = choice_is c.args.numbers c.args.taken c.requires.numbers c.requires.taken

pub returns-clause-few : goal.returns-clause-few
returns-clause-few c = omega (arith, choice_is c.args.numbers c.args.taken c.requires.numbers c.requires.taken, choose_few c.args.numbers c.args.taken c.requires.numbers)
