use Rattle.oracle_search.proofs.BetterLemmas.{enclosure_known, gap_known}
use Rattle.oracle_search.proofs.gap.gap_at.Goals as goal

pub returns-clause-gap : goal.returns-clause-gap
returns-clause-gap g c =
    gap_known (g.G.Game.model c.args.g) (g.met.G.Game.lawful c.args.g) c.args.s (g.B.Bounds.view c.known_bounds-enclosure.new.board) c.known_bounds-enclosure.result
    c.known_bounds-enclosure.ensures.enclosed c.known_bounds-enclosure.ensures.known

pub returns-clause-enclosed : goal.returns-clause-enclosed
returns-clause-enclosed g c =
    enclosure_known (g.G.Game.model c.args.g) (g.met.G.Game.lawful c.args.g) c.args.s (g.B.Bounds.view c.known_bounds-enclosure.new.board) c.known_bounds-enclosure.result
    c.known_bounds-enclosure.ensures.enclosed c.known_bounds-enclosure.ensures.known
