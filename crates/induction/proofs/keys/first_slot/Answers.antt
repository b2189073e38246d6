use Rattle.std.proofs.Common.{refl}
use Rattle.induction.specs.Keys.{first_slot}
use Rattle.induction.proofs.keys.first_slot.Goals as goal

pub returns-clause-is : goal.returns-clause-is
unfolding first_slot
returns-clause-is c = rw c.wrapping_shr-shifted.ensures refl
