use Rattle.std.proofs.Common.{ap}
use Rattle.table.specs.Setting.{cell_number}
use Rattle.table.proofs.setting.Setting.weight.Goals as goal

pub draw_place-requires : goal.draw_place-requires
draw_place-requires c = c.requires c.in-Draws.first (ap cell_number c.in-Draws.is)
