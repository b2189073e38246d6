use Rattle.std.proofs.Common.{◌≡◌, ◌*◌, ◌≤◌, pos, ◌*ℤ◌, unsigned_abs, slice_index}
use Rattle.sums.specs.Sums.{sum_below}
use Rattle.sums.specs.declared.TheConstants.{MOST_MOVES}
use Rattle.plan_book.specs.Steps.{cell}
use Rattle.induction.specs.Certified.{turn_numbers}
use Rattle.induction.proofs.bounds.worth.Given as goal

abbrev pub invariant-loop-own : goal.invariant-loop-own
invariant-loop-own g l = record {
  so_far : l.sum ≡ sum_below l.own (λ own. pos (slice_index l.weights own) *ℤ cell (g.G.Game.model l.g) l.side l.s (turn_numbers (g.G.Game.model l.g) l.side l.rows l.s) own l.reply);
  small : unsigned_abs l.sum ≤ l.own * 4194304000000000;
  few : l.own-end ≤ MOST_MOVES;
}
