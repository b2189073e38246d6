use Rattle.induction.specs.Listed.{AreListed}
use Rattle.induction.specs.Places.{is_put}
use Rattle.induction.proofs.listed.list_states.Given as goal

abbrev pub invariant-loop-next : goal.invariant-loop-next
invariant-loop-next g l = AreListed (g.G.Game.model l.g) (g.G.Game.numbering l.g).place l.fn.rows (is_put l.known) l.states.items
