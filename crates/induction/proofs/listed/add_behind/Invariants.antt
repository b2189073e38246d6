use Rattle.induction.specs.Listed.{AreListed}
use Rattle.induction.specs.Places.{is_put}
use Rattle.induction.proofs.listed.add_behind.Given as goal

abbrev pub invariant-loop-d : goal.invariant-loop-d
invariant-loop-d g l = AreListed (g.G.Game.model l.g) (g.G.Game.numbering l.g).place l.rows (is_put l.known) l.states.items

abbrev pub invariant-loop-b : goal.invariant-loop-b
invariant-loop-b g l = AreListed (g.G.Game.model l.g) (g.G.Game.numbering l.g).place l.rows (is_put l.known) l.states.items

abbrev pub invariant-loop-a : goal.invariant-loop-a
invariant-loop-a g l = AreListed (g.G.Game.model l.g) (g.G.Game.numbering l.g).place l.rows (is_put l.known) l.states.items
