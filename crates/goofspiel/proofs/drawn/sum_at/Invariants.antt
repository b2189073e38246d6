use Rattle.std.proofs.Common.{◌≡◌, ◌*◌, ◌≤◌, take}
use Rattle.std.specs.Prelude.{slice_index}
use Rattle.std.specs.List.{sum_by}
use Rattle.state_key.proofs.SetLemmas.{IsDropped}
use Rattle.goofspiel.specs.Cards.{places}
use Rattle.goofspiel.proofs.drawn.sum_at.Given as goal

abbrev pub invariant-loop : goal.invariant-loop
invariant-loop l = record {
  walk : IsDropped 13 0 (places l.set) l.counter l.rest;
  is : l.sum ≡ sum_by (slice_index l.prizes) (take l.counter (places l.set));
  small : l.sum ≤ 255 * l.counter;
}
