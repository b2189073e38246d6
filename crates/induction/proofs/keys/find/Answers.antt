use Rattle.std.proofs.Common.{◌≡◌, ℕ, ◌≤◌, get_or, length, sym, subst, arith}
use Rattle.induction.proofs.KeyLemmas.{IsOther, walk_first, walk_more, other_here, not_at_free, not_anywhere, no_place, place_at}
use Rattle.induction.proofs.keys.find.Goals as goal

pub loop-step-init : goal.loop-step-init
loop-step-init c = walk_first (IsOther c.args.slots.now c.args.keys.now c.args.key) _ _ _ c.first_slot-slot.ensures.is c.first_slot-slot.ensures.within

pub returns-then-slots-lt16 : goal.returns-then-slots-lt16
returns-then-slots-lt16 c =
    let few = c.if-slots-lt16.true in
    sym (no_place c.args.keys.now c.args.key (λ i l. absurd (let enough = c.requires.enough (omega (arith, l)) in omega (arith, enough, few))))

pub returns-then-named-eq0 : goal.returns-then-named-eq0
returns-then-named-eq0 c =
    let at = c.loop-step.invariant in
    let none : get_or c.args.slots.now c.loop-step.slot 0 ≡ 0 = (let free = c.if-named-eq0.true in omega (arith, free)) in
    sym (no_place c.args.keys.now c.args.key
    (not_at_free (length c.args.slots.now) c.args.slots.now c.args.shift c.args.keys.now c.args.key c.loop-step._step c.requires.found at.seen
    (subst (λ (slot : ℕ). get_or c.args.slots.now slot 0 ≡ 0) at.at none)))

pub returns-then-is_at : goal.returns-then-is_at
returns-then-is_at c = sym (place_at c.args.keys.now c.args.key _ c.requires.distinct c.if-is_at.ensures.0 c.if-is_at.ensures.1)

pub loop-step-preserved : goal.loop-step-preserved
loop-step-preserved c =
    let taken : 1 ≤ get_or c.args.slots.now c.loop-step.slot 0 = (let some = c.if-named-eq0.false in omega (arith, some)) in
    walk_more (IsOther c.args.slots.now c.args.keys.now c.args.key) _ _ _ _ _ c.loop-step.invariant
    (other_here c.args.slots.now c.args.keys.now c.args.key c.loop-step.slot taken c.if-is_at.ensures) c.slot_after-slot.ensures.is c.slot_after-slot.ensures.within

pub returns : goal.returns
returns c =
    let all : length c.args.slots.now ≤ c.loop-step._step = (let ended = c.loop-step-test.false in let end = c.loop-step.auto._step-end in omega (arith, ended, end)) in
    sym (no_place c.args.keys.now c.args.key
    (not_anywhere (length c.args.slots.now) c.args.slots.now c.args.shift c.args.keys.now c.args.key c.loop-step._step c.requires.found c.loop-step.invariant.seen all))
