use Rattle.std.proofs.Common.{arith}
use Rattle.goofspiel.specs.laws.Game.{goofspiel_sound, small}
use Rattle.goofspiel.proofs.GoofspielGame.mirrored_place.Goals as goal

pub deals_below-requires : goal.deals_below-requires
deals_below-requires c = omega (arith, c.rank-left.ensures, (goofspiel_sound c.args.self.now.setting c.args.self.now.valid c.args.s c.requires).few)

pub spread-requires : goal.spread-requires
spread-requires c = omega (arith, c.rank-left.ensures, (goofspiel_sound c.args.self.now.setting c.args.self.now.valid c.args.s c.requires).few)

pub mirrored_number-number-requires-clause-one : goal.mirrored_number-number-requires-clause-one
mirrored_number-number-requires-clause-one c = (small c.args.self.now.setting c.args.self.now.valid c.args.s c.requires).one

pub mirrored_number-number-requires-clause-two : goal.mirrored_number-number-requires-clause-two
mirrored_number-number-requires-clause-two c = (small c.args.self.now.setting c.args.self.now.valid c.args.s c.requires).two
