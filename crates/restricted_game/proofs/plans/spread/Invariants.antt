use Rattle.restricted_game.proofs.SpreadLemmas.{IsSpreadSoFar}
use Rattle.restricted_game.proofs.plans.spread.Given as goal

abbrev pub invariant-loop-i : goal.invariant-loop-i
invariant-loop-i l = IsSpreadSoFar l.moves l.held l.weights l.i l.full.items
