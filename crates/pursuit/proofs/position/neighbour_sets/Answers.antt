use Rattle.std.proofs.Common.{arith}
use Rattle.pursuit.proofs.PositionLemmas.{gathered_all, gathered_more, gathered_none}
use Rattle.pursuit.proofs.position.neighbour_sets.Goals as goal

pub loop-edge-init : goal.loop-edge-init
loop-edge-init c = gathered_none c.args.edges.now

pub loop-edge-preserved : goal.loop-edge-preserved
loop-edge-preserved c =
    gathered_more c.args.edges.now c.loop-edge.edge c.loop-edge.sets _ _ (omega arith) c.add_arc-in-loop-edge.ensures.count c.loop-edge.invariant
    c.add_arc.ensures.added c.add_arc-in-loop-edge.ensures.added

pub returns-clause-count : goal.returns-clause-count
returns-clause-count c = c.loop-edge.invariant.rows

pub returns-clause-joined : goal.returns-clause-joined
returns-clause-joined c = gathered_all c.args.edges.now c.loop-edge.edge c.loop-edge.sets (omega arith) c.loop-edge.invariant
