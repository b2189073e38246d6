use Rattle.lazy_workers.proofs.FoundLemmas.{found_game}
use Rattle.game_search.proofs.search.whole.Goals as goal

pub returns : goal.returns
returns g c = found_game (g.G.Game.model c.args.g) c.args.ask.now c.args.may_stop c.args.found c.requires
