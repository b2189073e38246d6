use Rattle.std.proofs.Common.{◌≡◌, ◌+◌}
use Rattle.induction.proofs.values.Values.give.Given as goal

abbrev pub invariant-loop-place : goal.invariant-loop-place
invariant-loop-place g l = record {
  rows : l.self.rows ≡ l.fn.self.rows;
  turns : l.self.turns ≡ record l.fn.self.turns { spent = l.fn.self.turns.spent + l.made };
}
