use Rattle.std.proofs.Common.{◌≡◌, ◌*◌, ◌≤◌, slice_index, unsigned_abs, pos, ◌*ℤ◌}
use Rattle.sums.specs.Sums.{sum_below}
use Rattle.best_reply.specs.Replies.{cell_in}
use Rattle.best_reply.proofs.worth.Given as goal

abbrev pub invariant-loop-own : goal.invariant-loop-own
invariant-loop-own l = record {
  sum_so_far : l.sum ≡ sum_below l.own (λ own. pos (slice_index l.weights own) *ℤ cell_in l.side l.cells l.cols own l.reply);
  small : unsigned_abs l.sum ≤ l.own * 4194304000000000;
}
