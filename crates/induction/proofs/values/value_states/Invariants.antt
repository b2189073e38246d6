use Rattle.std.proofs.Common.{◌≡◌}
use Rattle.induction.specs.Spent.{HasSpent}
use Rattle.induction.proofs.values.value_states.Given as goal

abbrev pub invariant-loop-half : goal.invariant-loop-half
invariant-loop-half g l = record {
  rows : l.values.rows ≡ l.fn.values.rows;
  spent : HasSpent l.missing l.count l.fn.values.turns l.values.turns;
}
