use Rattle.std.proofs.Common.{arith}
use Rattle.goofspiel.specs.laws.Cards.{few_members}
use Rattle.goofspiel.proofs.places.mirrored_number.Goals as goal

pub choose-hands-requires-clause-taken : goal.choose-hands-requires-clause-taken
choose-hands-requires-clause-taken c = let l = c.size.ensures 0 in omega (arith, l, few_members 0 c.args.s.one c.requires.one)
