use Rattle.std.proofs.Common.{ap, ◌∙◌, arith}
use Rattle.goofspiel.specs.laws.Deals.{few_prizes}
use Rattle.goofspiel.specs.Deals.{gone}
use Rattle.goofspiel.specs.laws.Game.{goofspiel_sound}
use Rattle.goofspiel.specs.laws.Places.{parts}
use Rattle.goofspiel.specs.Places.{far_with}
use Rattle.goofspiel.proofs.GoofspielGame.place.Goals as goal

pub deals_below-requires : goal.deals_below-requires
deals_below-requires c = omega (arith, c.rank-left.ensures, (goofspiel_sound c.args.self.now.setting c.args.self.now.valid c.args.s c.requires).few)

pub spread-requires : goal.spread-requires
spread-requires c = omega (arith, c.rank-left.ensures, (goofspiel_sound c.args.self.now.setting c.args.self.now.valid c.args.s c.requires).few)

pub deal_number-requires-clause-dealt : goal.deal_number-requires-clause-dealt
deal_number-requires-clause-dealt c =
    let g = c.args.self.now.setting in
    (gone g c.args.s, c.spread.ensures.is ∙ ap (far_with g) c.rank-left.ensures, goofspiel_sound g c.args.self.now.valid c.args.s c.requires)

pub deal_number-requires-clause-parts : goal.deal_number-requires-clause-parts
deal_number-requires-clause-parts c = parts c.args.self.now.setting c.args.self.now.valid c.args.s c.requires

pub overflow_add-result : goal.overflow_add-result
overflow_add-result c =
    let few = (goofspiel_sound c.args.self.now.setting c.args.self.now.valid c.args.s c.requires).few in
    omega (arith, c.rank-left.ensures, few, few_prizes c.args.self.now.setting c.args.self.now.valid, c.deals_below.ensures.few, c.deal_number.ensures.few)
