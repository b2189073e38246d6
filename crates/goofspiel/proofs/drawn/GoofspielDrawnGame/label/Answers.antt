use Rattle.goofspiel.specs.laws.Drawn.{drawn_sound}
use Rattle.goofspiel.proofs.drawn.GoofspielDrawnGame.label.Goals as goal

pub number_at-requires-clause-small : goal.number_at-requires-clause-small
number_at-requires-clause-small c = (drawn_sound c.args.self.now.setting c.args.self.now.valid c.args.s c.requires.reachable).hands.one_small

pub number_at-requires-in-Two-clause-small : goal.number_at-requires-in-Two-clause-small
number_at-requires-in-Two-clause-small c = (drawn_sound c.args.self.now.setting c.args.self.now.valid c.args.s c.requires.reachable).hands.two_small
