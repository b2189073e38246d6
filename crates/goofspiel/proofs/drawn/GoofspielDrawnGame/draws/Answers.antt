use Rattle.goofspiel.specs.laws.Drawn.{drawn_sound}
use Rattle.goofspiel.proofs.drawn.GoofspielDrawnGame.draws.Goals as goal

pub size-requires : goal.size-requires
size-requires c = (drawn_sound c.args.self.now.setting c.args.self.now.valid c.args.s c.requires.reachable).undrawn_small
