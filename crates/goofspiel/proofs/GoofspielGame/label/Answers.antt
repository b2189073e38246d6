use Rattle.goofspiel.specs.laws.Game.{goofspiel_sound}
use Rattle.goofspiel.proofs.GoofspielGame.label.Goals as goal

pub number_at-requires-clause-small : goal.number_at-requires-clause-small
number_at-requires-clause-small c = (goofspiel_sound c.args.self.now.setting c.args.self.now.valid c.args.s c.requires.reachable).one_small

pub number_at-requires-in-Two-clause-small : goal.number_at-requires-in-Two-clause-small
number_at-requires-in-Two-clause-small c = (goofspiel_sound c.args.self.now.setting c.args.self.now.valid c.args.s c.requires.reachable).two_small
