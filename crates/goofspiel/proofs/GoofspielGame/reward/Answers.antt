use Rattle.goofspiel.specs.laws.Game.{small}
use Rattle.goofspiel.proofs.GoofspielGame.reward.Goals as goal

pub won_by-requires-clause-small : goal.won_by-requires-clause-small
won_by-requires-clause-small c = small c.args.self.now.setting c.args.self.now.valid c.args.s c.requires.reachable
