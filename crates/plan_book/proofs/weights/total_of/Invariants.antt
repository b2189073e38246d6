use Rattle.std.proofs.Common.{◌≡◌, ◌*◌, ◌≤◌, sum, take, length}
use Rattle.plan_book.proofs.weights.total_of.Given as goal

abbrev pub invariant-loop-weight : goal.invariant-loop-weight
invariant-loop-weight l = record {
  so_far : l.sum ≡ sum (take l.weight-index l.weights);
  small : l.sum ≤ l.weight-index * 4294967295;
  few : length l.weights ≤ 4294967295;
}
