use Rattle.std.proofs.Common.{◌≡◌, ◌≤◌, ℤ, w32, to_z, of_z, get_or, arith, refl, ap₂, ◌∙◌}
use Rattle.std.proofs.lemmas.Int.{ints, to_z-of_z}
use Rattle.std.specs.Int.RustNames.{unsigned_abs}
use Rattle.goofspiel.specs.Cards.{cards}
use Rattle.goofspiel.specs.Rules.{won, score_after}
use Rattle.goofspiel.specs.laws.Deals.{same_goofspiel_state}
use Rattle.goofspiel.proofs.hands.play.Goals as goal

same_number : (z : ℤ) → unsigned_abs z ≤ 2300 → to_z w32 (of_z w32 z) ≡ z
same_number z small = omega (arith, ints)

pub returns : goal.returns
returns c =
    let s = c.args.s in
    let change : c.change.result ≡ won (get_or (cards s.one) c.args.a 0) (get_or (cards s.two) c.args.b 0) c.args.prize =
    c.change.ensures.is ∙ rw (c.take_out-card_one.ensures.number, c.take_out-card_two.ensures.number) refl in
    let moved : to_z w32 (of_z w32 c.change.result) ≡ c.change.result = same_number c.change.result (let few = c.change.ensures.small in omega (arith, few)) in
    let score = ap₂ (score_after c.args.pay) (same_number s.score c.requires.small.score) (moved ∙ change) in
    same_goofspiel_state _ _ c.take_out-card_one.ensures.rest c.take_out-card_two.ensures.rest
    (to_z-of_z w32 c.score_after.result (record { sfits = c.score_after.type_inv }) ∙ c.score_after.ensures ∙ score)
