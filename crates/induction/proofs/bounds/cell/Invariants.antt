use Rattle.std.proofs.Common.{◌≡◌, ◌*◌, ◌≤◌, unsigned_abs}
use Rattle.sums.specs.Sums.{sum_below}
use Rattle.induction.proofs.BoundLemmas.{part_of}
use Rattle.induction.proofs.bounds.cell.Given as goal

abbrev pub invariant-loop-d : goal.invariant-loop-d
invariant-loop-d g l = record {
  so_far : l.sum ≡ sum_below l.d (part_of (g.G.Game.model l.g) l.fn.side l.rows l.s l.fn.own l.fn.reply);
  small : unsigned_abs l.sum ≤ l.d * 4194304000000000;
  few : l.d-end ≤ 13;
}
