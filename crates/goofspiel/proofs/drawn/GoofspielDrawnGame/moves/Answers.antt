use Rattle.goofspiel.specs.laws.Drawn.{drawn_sound}
use Rattle.goofspiel.proofs.drawn.GoofspielDrawnGame.moves.Goals as goal

pub size-requires : goal.size-requires
size-requires c = (drawn_sound c.args.self.now.setting c.args.self.now.valid c.args.s c.requires).hands.one_small

pub size-requires-in-Two : goal.size-requires-in-Two
size-requires-in-Two c = (drawn_sound c.args.self.now.setting c.args.self.now.valid c.args.s c.requires).hands.two_small
