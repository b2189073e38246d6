use Rattle.shared_board.proofs.DeskLemmas.{key_known, read_later, read_seen, read_backed}
use Rattle.shared_board.proofs.desk.DeskBounds.read.Goals as goal

pub read_row-requires : goal.read_row-requires
read_row-requires g c = key_known c.args.self.now.pass.view.keys c.args.row c.requires

pub returns-clause-later : goal.returns-clause-later
returns-clause-later g c = let did = c.read_row.ensures in read_later g.G.Game.model c.args.self.now c.read_row.new.self c.args.row did.view.0 did.view.1 _ _ did.view.2 did.view.3
    did.view.4 did.lower did.upper did.shaped

pub returns-clause-seen : goal.returns-clause-seen
returns-clause-seen g c = let did = c.read_row.ensures in read_seen g.G.Game.model c.args.self.now c.read_row.new.self c.args.row did.view.0 did.view.1 _ _ did.view.2 did.view.3
    did.view.4 did.lower did.upper did.shaped did.apart

pub returns-clause-backed : goal.returns-clause-backed
returns-clause-backed g c = let did = c.read_row.ensures in read_backed (g.G.Game.model c.args.self.now.board.game) c.args.self.now.pass.view c.args.row _ _ did.lower did.upper
