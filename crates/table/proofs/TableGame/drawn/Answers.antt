use Rattle.table.specs.laws.Game.{has_draw}
use Rattle.table.specs.Rules.{place_of}
use Rattle.table.specs.Setting.{cell_number, lists_of}
use Rattle.table.proofs.TableGame.drawn.Goals as goal

pub state-number-requires : goal.state-number-requires
state-number-requires c =
    let l = lists_of c.args.self.now.setting in
    has_draw l (place_of l c.args.s.number c.args.a c.args.b) c.args.d (cell_number c.cell.result) c.args.self.now.valid.fits c.cell.ensures c.requires.draw
