use Rattle.bounds_board.proofs.KnownLemmas.{known_enclosed, known_read}
use Rattle.bounds_board.proofs.known.known_bounds.Goals as goal

pub returns-clause-known : goal.returns-clause-known
returns-clause-known g c =
    let m = g.G.Game.model c.args.g in
    known_read m c.args.s c.read.result c.with_range.result c.with_range.ensures (g.B.Bounds.view c.read.new.self) (c.read.ensures.seen (m.key c.args.s) c.requires.row)

pub returns-clause-enclosed : goal.returns-clause-enclosed
returns-clause-enclosed g c =
    let both = rw c.requires.game at (c.read.ensures.backed c.args.s) in
    known_enclosed (g.G.Game.model c.args.g) c.args.s c.read.result c.with_range.result c.with_range.ensures (g.met.G.Game.lawful c.args.g) c.requires.reachable
    (both c.requires.reachable c.requires.row)
