use Rattle.std.proofs.Common.{◌≡◌, ◌≤◌}
use Rattle.pursuit.specs.declared.TheConstants.{MOST_NODES}
use Rattle.pursuit.specs.Rules.{degree, graph_from, greatest_below}
use Rattle.pursuit.proofs.position.width_of.Given as goal

abbrev pub invariant-loop-node : goal.invariant-loop-node
invariant-loop-node l = (l.most ≡ greatest_below l.node (degree (graph_from l.nodes l.sets))) × (l.most ≤ MOST_NODES)
