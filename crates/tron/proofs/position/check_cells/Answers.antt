use Rattle.std.proofs.Common.{sym}
use Rattle.tron.proofs.PositionLemmas.{named_below}
use Rattle.tron.proofs.position.check_cells.Goals as goal

pub returns-in-None : goal.returns-in-None
returns-in-None c =
    let none = sym c.in-None.ensures.place in
    let below = named_below c.args.bound c.args.walls.now c.args.one c.args.two none in
    (none, below.0, below.1, below.2)
