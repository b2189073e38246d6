use Rattle.std.proofs.Common.{ℕ, ◌*◌, ◌≤◌}
use Rattle.state_key.proofs.SetLemmas.{IsDropped}
use Rattle.goofspiel.specs.Cards.{members}
use Rattle.goofspiel.proofs.PartLemmas.{IsCounted}
use Rattle.goofspiel.proofs.places.summed_number.Given as goal

abbrev pub invariant-loop-taken : goal.invariant-loop-taken
invariant-loop-taken l = record {
  walk : (low : ℕ) → IsDropped 13 low (members 13 low l.part) l.taken l.rest;
  is : (low : ℕ) → IsCounted l.set l.part l.taken l.number low;
  few : l.number ≤ l.taken * 8192;
}
