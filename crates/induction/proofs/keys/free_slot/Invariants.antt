use Rattle.std.proofs.Common.{◌≤◌, get_or, length}
use Rattle.induction.specs.Keys.{first_slot}
use Rattle.induction.proofs.KeyLemmas.{IsWalk}
use Rattle.induction.proofs.keys.free_slot.Given as goal

abbrev pub invariant-loop-step : goal.invariant-loop-step
invariant-loop-step l = IsWalk (λ slot. 1 ≤ get_or l.slots slot 0) (length l.slots) (first_slot (length l.slots) l.shift l.key) l._step l.slot
