use Rattle.std.proofs.Common.{arith}
use Rattle.game_search.proofs.search.fn.find.by_workers.Goals as goal

pub solve-found-requires-clause-some : goal.solve-found-requires-clause-some
solve-found-requires-clause-some g c κs within = rw c.terms_of.ensures (omega (arith, c.requires.ask.weight.0))

pub solve-found-requires-clause-light : goal.solve-found-requires-clause-light
solve-found-requires-clause-light g c κs within = rw c.terms_of.ensures c.requires.ask.weight.1

pub returns : goal.returns
returns g c = rw (c.requires.whole, c.terms_of.ensures) at c.solve-found.ensures
