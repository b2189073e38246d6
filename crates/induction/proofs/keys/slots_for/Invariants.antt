use Rattle.std.proofs.Common.{◌≡◌, ◌*◌, ◌+◌, length}
use Rattle.induction.specs.Keys.{AreFound}
use Rattle.induction.proofs.keys.slots_for.Given as goal

abbrev pub invariant-loop-place : goal.invariant-loop-place
invariant-loop-place l = record {
  size : length l.slots.items ≡ 4 * length l.keys + 64;
  found : AreFound (4 * length l.keys + 64) l.slots.items l.shift l.keys l.place;
}
