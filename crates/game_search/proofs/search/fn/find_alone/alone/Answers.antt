use Rattle.std.proofs.Common.{arith}
use Rattle.game_search.proofs.search.fn.find_alone.alone.Goals as goal

pub solve_alone-found-requires : goal.solve_alone-found-requires
solve_alone-found-requires g c = rw c.terms_of.ensures (record { some = omega (arith, c.requires.ask.weight.0); light = c.requires.ask.weight.1 })

pub returns : goal.returns
returns g c = rw (c.requires.whole, c.terms_of.ensures) at c.solve_alone-found.ensures
