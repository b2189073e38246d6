use Rattle.goofspiel.specs.laws.Game.{small}
use Rattle.goofspiel.proofs.GoofspielGame.key.Goals as goal

pub hands_key-requires : goal.hands_key-requires
hands_key-requires c = small c.args.self.now.setting c.args.self.now.valid c.args.s c.requires
