use Rattle.sim_game.proofs.StateLemmas.{few_numbered}
use Rattle.sim_game.proofs.keeps_laws.Goals as goal

pub returns-clause-states : goal.returns-clause-states
returns-clause-states g c = few_numbered (g.G.Game.model c.args._g.now) (g.G.Game.numbering c.args._g.now) (g.met.G.Game.numbered c.args._g.now)
