use Rattle.std.proofs.Common.{◌≡◌, take}
use Rattle.solution.specs.Solutions.{spent_of}
use Rattle.solution.proofs.report.spent_of.Given as goal

abbrev pub invariant-loop-own : goal.invariant-loop-own
invariant-loop-own l = l.spent.items ≡ spent_of (take l.own-index l.turns)
