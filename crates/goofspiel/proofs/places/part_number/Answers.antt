use Rattle.std.proofs.Common.{◌∙◌, arith}
use Rattle.goofspiel.specs.laws.Cards.{few_members}
use Rattle.goofspiel.proofs.PartLemmas.{part_of_run}
use Rattle.goofspiel.proofs.places.part_number.Goals as goal

pub overflow_sub-size : goal.overflow_sub-size
overflow_sub-size c = let count = c.size.ensures 0 in omega (arith, count, few_members 0 c.args.set c.requires.set)

pub returns-then-set-eq0-clause-is : goal.returns-then-set-eq0-clause-is
returns-then-set-eq0-clause-is c = λ low within.
    c.bits_number.ensures.is ∙ part_of_run c.args.set c.args.part c.size.result low c.requires.set c.requires.part c.if-set-eq0.true (c.size.ensures low) within
