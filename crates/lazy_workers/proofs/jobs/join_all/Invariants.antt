use Rattle.std.proofs.Common.{length}
use Rattle.lazy_workers.proofs.JoinLemmas.{IsJoining}
use Rattle.lazy_workers.proofs.jobs.join_all.Given as goal

abbrev pub invariant-loop-done : goal.invariant-loop-done
invariant-loop-done g l = IsJoining g.G.Game.model l.fn.g l.board l.ask l.fn.begun l.initial.lead l.lead l.initial.found.items l.found.items l.turns.items l.was_full

abbrev pub decreases-loop-done : goal.decreases-loop-done
decreases-loop-done g l = length l.found.items
