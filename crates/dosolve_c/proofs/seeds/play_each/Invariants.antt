use Rattle.std.proofs.Common.{take}
use Rattle.dosolve_c.specs.Seeds.{AreMatchesTold}
use Rattle.dosolve_c.proofs.seeds.play_each.Given as goal

abbrev pub invariant-loop-seed : goal.invariant-loop-seed
invariant-loop-seed g l = AreMatchesTold (g.G.Game.model l.game) l.report l.games (take l.seed-index l.seeds) l.told.items
