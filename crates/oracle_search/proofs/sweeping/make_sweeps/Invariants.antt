use Rattle.oracle_search.specs.Workers.{at_work}
use Rattle.oracle_search.proofs.SweepLemmas.{HasMade}
use Rattle.oracle_search.proofs.sweeping.make_sweeps.Given as goal

abbrev pub invariant-loop-goal : goal.invariant-loop-goal
invariant-loop-goal g l =
    HasMade (g.G.Game.model l.setup.game) l.s l.goal-index (at_work (g.B.Bounds.view l.fn.board) l.fn.worker) (at_work (g.B.Bounds.view l.board) l.worker)
