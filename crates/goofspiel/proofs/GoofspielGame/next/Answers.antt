use Rattle.goofspiel.specs.laws.Game.{small}
use Rattle.goofspiel.proofs.GoofspielGame.next.Goals as goal

pub play-requires-clause-small : goal.play-requires-clause-small
play-requires-clause-small c = small c.args.self.now.setting c.args.self.now.valid c.args.s c.requires.reachable
