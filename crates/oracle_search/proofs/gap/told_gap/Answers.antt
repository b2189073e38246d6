use Rattle.oracle_search.proofs.BetterLemmas.{gap_known}
use Rattle.oracle_search.proofs.gap.told_gap.Goals as goal

pub returns-clause-gap : goal.returns-clause-gap
returns-clause-gap g c =
    gap_known (g.G.Game.model c.args.setup.now.game) (g.met.G.Game.lawful c.args.setup.now.game) c.args.s (g.B.Bounds.view c.known_bounds-enclosure.new.board) c.known_bounds-enclosure.result
    c.known_bounds-enclosure.ensures.enclosed c.known_bounds-enclosure.ensures.known
