use Rattle.goofspiel.proofs.HandLemmas.{IsGathered}
use Rattle.goofspiel.proofs.position.hand_of.Given as goal

abbrev pub invariant-loop-card : goal.invariant-loop-card
invariant-loop-card l = IsGathered l.hand l.card-index l.packed
