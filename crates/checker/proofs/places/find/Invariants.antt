use Rattle.std.proofs.Common.{◌-◌}
use Rattle.plan_book.proofs.LookupLemmas.{Narrows}
use Rattle.checker.proofs.places.find.Given as goal

abbrev pub invariant-loop-low : goal.invariant-loop-low
invariant-loop-low l = Narrows l.rows l.key l.low l.high

abbrev pub decreases-loop-low : goal.decreases-loop-low
decreases-loop-low l = l.high - l.low
