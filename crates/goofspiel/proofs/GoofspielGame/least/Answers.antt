use Rattle.std.proofs.Common.{arith}
use Rattle.std.proofs.lemmas.Int.{ints}
use Rattle.goofspiel.specs.laws.Game.{small}
use Rattle.goofspiel.proofs.ScoreLemmas.{least_is}
use Rattle.goofspiel.proofs.GoofspielGame.least.Goals as goal

pub overflow_sub-result : goal.overflow_sub-result
overflow_sub-result c = let fits = (small c.args.self.now.setting c.args.self.now.valid c.args.s c.requires).score in omega (arith, ints, fits, c.prizes_left.ensures.small)

pub returns-in-Prizes : goal.returns-in-Prizes
returns-in-Prizes c =
    least_is c.args.self.now.setting c.args.s.score c.prizes_left.result _ (small c.args.self.now.setting c.args.self.now.valid c.args.s c.requires).score
    (let few = c.prizes_left.ensures.small in omega (arith, few)) c.prizes_left.ensures.is c.in-Prizes.is
