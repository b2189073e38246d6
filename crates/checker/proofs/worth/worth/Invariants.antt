use Rattle.std.proofs.Common.{◌≡◌, ◌*◌, ◌≤◌, pos, ◌*ℤ◌, unsigned_abs, slice_index}
use Rattle.sums.specs.Sums.{sum_below}
use Rattle.checker.specs.Faults.{cell_of}
use Rattle.checker.proofs.worth.worth.Given as goal

abbrev pub invariant-loop-own : goal.invariant-loop-own
invariant-loop-own g l = record {
  so_far : l.sum ≡ sum_below l.own (λ own. pos (slice_index l.weights own) *ℤ cell_of (g.G.Game.model l.g) l.sheet l.s own l.reply);
  small : unsigned_abs l.sum ≤ l.own * 12582912000000000;
  few : l.own-end ≤ 64;
}
