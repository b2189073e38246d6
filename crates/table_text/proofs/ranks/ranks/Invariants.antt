use Rattle.table_text.proofs.StateRanks.{AreRanksFrom}
use Rattle.table_text.proofs.ranks.ranks.Given as goal

abbrev pub invariant-loop-left : goal.invariant-loop-left
invariant-loop-left l = AreRanksFrom l.left l.states l.ranks.items

abbrev pub decreases-loop-left : goal.decreases-loop-left
decreases-loop-left l = l.left
