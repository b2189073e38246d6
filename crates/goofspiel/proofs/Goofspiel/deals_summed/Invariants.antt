use Rattle.std.proofs.Common.{◌≡◌, ◌-◌, ◌*◌, ◌≤◌, take, sum}
use Rattle.sums.specs.Sums.{count_below}
use Rattle.goofspiel.specs.Places.{deals_with}
use Rattle.goofspiel.specs.Position.{prizes_of}
use Rattle.goofspiel.proofs.Goofspiel.deals_summed.Given as goal

abbrev pub invariant-loop-left : goal.invariant-loop-left
invariant-loop-left l =
    (l.sum ≡ count_below l.left (deals_with l.self.setting)) × (l.sum ≤ l.left * 549755813888)
    × (l.spent ≡ sum (take (l.self.setting.count - l.left) (prizes_of l.self.setting))) × (l.spent ≤ 3315)
