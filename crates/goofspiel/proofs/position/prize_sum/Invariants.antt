use Rattle.std.proofs.Common.{◌≡◌, ◌*◌, ◌≤◌, take, sum}
use Rattle.goofspiel.proofs.position.prize_sum.Given as goal

abbrev pub invariant-loop-prize : goal.invariant-loop-prize
invariant-loop-prize l = (l.sum ≡ sum (take l.prize-index l.prizes)) × (l.sum ≤ 255 * l.prize-index)
