use Rattle.std.proofs.Common.{◌≡◌, ◌*◌, ◌≤◌, unsigned_abs}
use Rattle.sums.specs.Sums.{sum_below}
use Rattle.checker.proofs.BoundLemmas.{part_of}
use Rattle.checker.proofs.worth.cell.Given as goal

abbrev pub invariant-loop-d : goal.invariant-loop-d
invariant-loop-d g l = record {
  so_far : l.sum ≡ sum_below l.d (part_of (g.G.Game.model l.g) l.fn.sheet l.s l.fn.own l.fn.reply);
  small : unsigned_abs l.sum ≤ l.d * 12582912000000000;
  few : l.d-end ≤ 13;
}
