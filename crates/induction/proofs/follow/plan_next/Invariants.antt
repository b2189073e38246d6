use Rattle.std.proofs.Common.{length}
use Rattle.induction.specs.Places.{is_put}
use Rattle.induction.proofs.FollowLemmas.{IsAmong}
use Rattle.induction.proofs.follow.plan_next.Given as goal

abbrev pub invariant-loop-child : goal.invariant-loop-child
invariant-loop-child g l =
    IsAmong (g.G.Game.model l.g) (g.G.Game.numbering l.g).place l.fn.side l.total l.fn.walk.states.items (is_put l.fn.walk.seen) (is_put l.walk.seen) (length l.fn.walk.met.items) l.walk.met.items
    l.walk.states.items l.child-items l.child-index
