use Rattle.commands.proofs.measure.worst_of.Goals as goal

pub returns : goal.returns
returns c = (c.game.result, c.game.ensures, c.accept.ensures)
