use Rattle.std.proofs.Common.{arith}
use Rattle.pursuit.proofs.PositionLemmas.{nodes_small, no_loop, sets_within}
use Rattle.pursuit.proofs.Pursuit.new.Goals as goal
use Rattle.std.proofs.Common.{◌∙◌}

pub neighbour_sets-neighbours-requires : goal.neighbour_sets-neighbours-requires
neighbour_sets-neighbours-requires c = nodes_small c.args.nodes c.args.edges.now (omega arith) c.in_ok-check_edges.ensures

pub width_of-requires-clause-within : goal.width_of-requires-clause-within
width_of-requires-clause-within c = sets_within c.args.nodes c.args.edges.now c.neighbour_sets-neighbours.result c.in_ok-check_edges.ensures c.neighbour_sets-neighbours.ensures.joined

pub invariant_of-result : goal.invariant_of-result
invariant_of-result c = record {
  valid = record {
    nodes_low = omega arith;
    nodes_high = omega arith;
    one_below = c.in_ok-check_places.ensures.0;
    two_below = c.in_ok-check_places.ensures.1;
    rounds_high = omega arith;
    within = sets_within c.args.nodes c.args.edges.now c.neighbour_sets-neighbours.result c.in_ok-check_edges.ensures c.neighbour_sets-neighbours.ensures.joined;
    no_loop = λ node. c.neighbour_sets-neighbours.ensures.joined node node ∙ no_loop c.args.edges.now node c.in_ok-check_loops.ensures;
  };
  width_is = c.width_of.ensures;
}
