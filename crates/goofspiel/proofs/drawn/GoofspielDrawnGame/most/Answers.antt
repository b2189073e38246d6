use Rattle.std.proofs.Common.{arith}
use Rattle.std.proofs.lemmas.Int.{ints}
use Rattle.goofspiel.specs.laws.Drawn.{drawn_sound, hands_small}
use Rattle.goofspiel.proofs.ScoreLemmas.{most_is}
use Rattle.goofspiel.proofs.drawn.GoofspielDrawnGame.most.Goals as goal

pub overflow_add-result : goal.overflow_add-result
overflow_add-result c =
    let fits = (hands_small c.args.self.now.setting c.args.self.now.valid c.args.s (drawn_sound c.args.self.now.setting c.args.self.now.valid c.args.s c.requires)).score in
    omega (arith, ints, fits, c.prizes_left.ensures.small)

pub returns-in-Prizes : goal.returns-in-Prizes
returns-in-Prizes c =
    let fits = (hands_small c.args.self.now.setting c.args.self.now.valid c.args.s (drawn_sound c.args.self.now.setting c.args.self.now.valid c.args.s c.requires)).score in
    most_is c.args.self.now.setting c.args.s.hands.score c.prizes_left.result _ fits c.prizes_left.ensures.small c.prizes_left.ensures.is c.in-Prizes.is
