use Rattle.std.proofs.Common.{arith}
use Rattle.table.specs.laws.Game.{has_draw}
use Rattle.table.specs.Setting.{cell_number, lists_of}
use Rattle.table.proofs.rules.Fitting.cell_rank.Goals as goal

pub state-next-requires : goal.state-next-requires
state-next-requires c = has_draw (lists_of c.args.self.now.setting) c.args.place c.loop-d.d (cell_number c.cell-cell.result) c.args.self.now.fits c.cell-cell.ensures (omega arith)
