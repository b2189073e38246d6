use Rattle.checker.proofs.VerdictLemmas.{verdict_once}
use Rattle.checker.proofs.one_verdict.Goals as goal

pub returns : goal.returns
returns g c = verdict_once (g.G.Game.model c.args._g.now) (g.met.G.Game.lawful c.args._g.now) c.args._r.now
