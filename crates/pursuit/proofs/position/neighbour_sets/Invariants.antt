use Rattle.pursuit.proofs.PositionLemmas.{IsGathered}
use Rattle.pursuit.proofs.position.neighbour_sets.Given as goal

abbrev pub invariant-loop-edge : goal.invariant-loop-edge
invariant-loop-edge l = IsGathered l.edges l.edge l.sets
