use Rattle.std.proofs.Common.{◌≤◌, get_or, arith}
use Rattle.induction.proofs.KeyLemmas.{walk_first, walk_more}
use Rattle.induction.proofs.keys.free_slot.Goals as goal

pub loop-step-init : goal.loop-step-init
loop-step-init c = walk_first (λ slot. 1 ≤ get_or c.args.slots.now slot 0) _ _ _ c.first_slot-slot.ensures.is c.first_slot-slot.ensures.within

pub loop-step-preserved : goal.loop-step-preserved
loop-step-preserved c =
    let taken = c.if-slots-slot-eq0.false in
    walk_more (λ slot. 1 ≤ get_or c.args.slots.now slot 0) _ _ _ _ _ c.loop-step.invariant (omega (arith, taken)) c.slot_after-slot.ensures.is c.slot_after-slot.ensures.within
