use Rattle.state_key.proofs.SetLemmas.{IsDropped}
use Rattle.goofspiel.specs.Cards.{members}
use Rattle.goofspiel.proofs.sets.number_at.Given as goal

abbrev pub invariant-loop : goal.invariant-loop
invariant-loop l = IsDropped 13 l.low (members 13 l.low l.set) l.counter l.rest
