use Rattle.checker.specs.Faults.{HoldsBelow}
use Rattle.checker.proofs.rows.reply_fault.Given as goal

abbrev pub invariant-loop-reply : goal.invariant-loop-reply
invariant-loop-reply g l = HoldsBelow (g.G.Game.model l.g) l.sheet l.row l.s l.reply
