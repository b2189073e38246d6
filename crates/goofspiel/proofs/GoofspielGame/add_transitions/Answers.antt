use Rattle.std.proofs.Common.{arith}
use Rattle.goofspiel.specs.laws.Game.{goofspiel_sound, small}
use Rattle.goofspiel.proofs.GoofspielGame.add_transitions.Goals as goal

pub deals_below-first-requires : goal.deals_below-first-requires
deals_below-first-requires c = omega (arith, c.rank-left.ensures, (goofspiel_sound c.args.self.now.setting c.args.self.now.valid c.args.s c.requires).few)

pub spread-far-requires : goal.spread-far-requires
spread-far-requires c = omega (arith, c.rank-left.ensures, (goofspiel_sound c.args.self.now.setting c.args.self.now.valid c.args.s c.requires).few)

pub new-deals-requires-clause-left : goal.new-deals-requires-clause-left
new-deals-requires-clause-left c = omega (arith, c.rank-left.ensures, (goofspiel_sound c.args.self.now.setting c.args.self.now.valid c.args.s c.requires).few)

pub parts_without-twos-requires-clause-part : goal.parts_without-twos-requires-clause-part
parts_without-twos-requires-clause-part c = (small c.args.self.now.setting c.args.self.now.valid c.args.s c.requires).two

pub parts_without-ones-requires-clause-part : goal.parts_without-ones-requires-clause-part
parts_without-ones-requires-clause-part c = (small c.args.self.now.setting c.args.self.now.valid c.args.s c.requires).one
