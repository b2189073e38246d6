use Rattle.position.proofs.LimitLemmas.{fine_game}
use Rattle.position.proofs.task.Task.game.Goals as goal

pub returns-clause-fine : goal.returns-clause-fine
returns-clause-fine c = fine_game c.args.self.now.text c.game_of.result c.args.self.now.ask.weight c.game_of.ensures c.args.self.now.fine
