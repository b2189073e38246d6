use Rattle.std.proofs.Common.{◌≡◌, ◌*◌, ◌≤◌}
use Rattle.sums.specs.Sums.{count_below}
use Rattle.goofspiel.specs.Places.{drawn_deals_with}
use Rattle.goofspiel.proofs.drawn.GoofspielDrawn.deals_below.Given as goal

abbrev pub invariant-loop-left : goal.invariant-loop-left
invariant-loop-left l = (l.sum ≡ count_below l.left (drawn_deals_with l.self.setting)) × (l.sum ≤ l.left * 72057594037927936)
