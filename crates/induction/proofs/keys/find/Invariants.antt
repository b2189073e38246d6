use Rattle.std.proofs.Common.{length}
use Rattle.induction.specs.Keys.{first_slot}
use Rattle.induction.proofs.KeyLemmas.{IsWalk, IsOther}
use Rattle.induction.proofs.keys.find.Given as goal

abbrev pub invariant-loop-step : goal.invariant-loop-step
invariant-loop-step l = IsWalk (IsOther l.slots l.keys l.key) (length l.slots) (first_slot (length l.slots) l.shift l.key) l._step l.slot
