use Rattle.std.proofs.Common.{arith, ℕ, ◌≡◌, ap, subst, sym, length, ◌∙◌}
use Rattle.std.specs.Prelude.{option_map}
use Rattle.goofspiel.specs.declared.GoofspielError.TheVariants.{CardTwice}
use Rattle.goofspiel.proofs.HandLemmas.{IsGathered, number_inside, gathered_repeat, gathered_more, gathered_all}
use Rattle.goofspiel.proofs.position.hand_of.Goals as goal

pub has-requires : goal.has-requires
has-requires c = number_inside 1 13 c.args.hand.now c.loop-card.card-index c.requires (omega arith)

pub returns-then-has : goal.returns-then-has
returns-then-has c =
    let inside = number_inside 1 13 c.args.hand.now c.loop-card.card-index c.requires (omega arith) in
    ap (option_map (CardTwice c.args.side))
    (gathered_repeat c.args.hand.now c.loop-card.card-index c.loop-card.packed (omega arith) inside.0 inside.1 (sym c.has.ensures ∙ c.if-has.true) c.loop-card.invariant)

pub with_card-packed-requires : goal.with_card-packed-requires
with_card-packed-requires c = number_inside 1 13 c.args.hand.now c.loop-card.card-index c.requires (omega arith)

pub loop-card-preserved : goal.loop-card-preserved
loop-card-preserved c =
    let inside = number_inside 1 13 c.args.hand.now c.loop-card.card-index c.requires (omega arith) in
    rw c.with_card-packed.ensures (gathered_more c.args.hand.now c.loop-card.card-index c.loop-card.packed (omega arith) inside.0 inside.1 (sym c.has.ensures ∙ c.if-has.false) c.loop-card.invariant)

pub returns : goal.returns
returns c =
    let all : c.loop-card.card-index ≡ length c.args.hand.now = omega arith in
    gathered_all c.args.hand.now c.loop-card.packed (subst (λ (n : ℕ). IsGathered c.args.hand.now n c.loop-card.packed) all c.loop-card.invariant)
