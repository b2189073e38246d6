use Rattle.std.proofs.Common.{◌≡◌, max}
use Rattle.table.specs.Below.{highest_below}
use Rattle.table.specs.Lists.{count_in}
use Rattle.table.proofs.rules.Fitting.width.Given as goal

abbrev pub invariant-loop-moves : goal.invariant-loop-moves
invariant-loop-moves l = l.most ≡ max 1 (highest_below l.moves-index (count_in l.self.setting.moves.now))
