use Rattle.std.proofs.Common.{◌≡◌, ℕ, ◌<◌, ◌^◌, length, sum, ap, sym, subst, ◌∙◌, arith}
use Rattle.sums.specs.Sums.{count_below}
use Rattle.sim_game.proofs.ReachLemmas.{reachable_root}
use Rattle.goofspiel.specs.declared.drawn.DrawnState.{DrawnState}
use Rattle.goofspiel.specs.Cards.{cards}
use Rattle.goofspiel.specs.laws.Deals.{few_prizes}
use Rattle.goofspiel.specs.laws.Drawn.{drawn_sound}
use Rattle.goofspiel.specs.DrawnRules.{drawn_game}
use Rattle.goofspiel.specs.laws.Places.{dealt, drawn_parts}
use Rattle.goofspiel.specs.Places.{drawn_deals_with}
use Rattle.goofspiel.specs.Position.{prizes_of}
use Rattle.goofspiel.proofs.PlaceLemmas.{drawn_few, drawn_number_from}
use Rattle.goofspiel.proofs.drawn.GoofspielDrawnGame.place.Goals as goal

pub sets-requires : goal.sets-requires
sets-requires c = omega (arith, c.rank-left.ensures, (drawn_sound c.args.self.now.setting c.args.self.now.valid c.args.s c.requires).hands.few)

pub deals_below-requires : goal.deals_below-requires
deals_below-requires c = omega (arith, c.rank-left.ensures, (drawn_sound c.args.self.now.setting c.args.self.now.valid c.args.s c.requires).hands.few)

pub deal_number-deal-requires-clause-dealt : goal.deal_number-deal-requires-clause-dealt
deal_number-deal-requires-clause-dealt c =
    let g = c.args.self.now.setting in
    let valid = c.args.self.now.valid in
    (sum (prizes_of g), c.spread.ensures.is, dealt g valid c.args.s (drawn_sound g valid c.args.s c.requires))

pub deal_number-deal-requires-clause-parts : goal.deal_number-deal-requires-clause-parts
deal_number-deal-requires-clause-parts c = (drawn_parts c.args.self.now.setting c.args.self.now.valid c.args.s c.requires).hands

pub part_number-undrawn-requires-clause-set : goal.part_number-undrawn-requires-clause-set
part_number-undrawn-requires-clause-set c =
    let g = c.args.self.now.setting in
    let first = drawn_sound g c.args.self.now.valid (drawn_game g).root (reachable_root (drawn_game g)) in
    subst (λ (r : DrawnState). r.undrawn < 2 ^ 13) (sym c.root.ensures) first.undrawn_small

pub part_number-undrawn-requires-clause-part : goal.part_number-undrawn-requires-clause-part
part_number-undrawn-requires-clause-part c = (drawn_sound c.args.self.now.setting c.args.self.now.valid c.args.s c.requires).undrawn_small

pub overflow_add-result-2 : goal.overflow_add-result-2
overflow_add-result-2 c =
    let g = c.args.self.now.setting in
    let valid = c.args.self.now.valid in
    let s = c.args.s in
    let left = c.rank-left.ensures in
    let is = drawn_number_from g valid s c.root.result _ _ _ _ _ _ c.requires c.root.ensures c.spread.ensures.is left c.deal_number-deal.ensures.is c.sets.ensures.is
    (c.part_number-undrawn.ensures.is 0) c.place_count.ensures in
    let few = drawn_few g valid s c.requires (omega (arith, c.spread.ensures.is, c.spread.ensures.few)) in
    omega (arith, is, few, c.deals_below.ensures.few, left, (drawn_sound g valid s c.requires).hands.few, few_prizes g valid)

pub returns : goal.returns
returns c =
    let g = c.args.self.now.setting in
    let valid = c.args.self.now.valid in
    let s = c.args.s in
    let left = c.rank-left.ensures in
    let is = drawn_number_from g valid s c.root.result _ _ _ _ _ _ c.requires c.root.ensures c.spread.ensures.is left c.deal_number-deal.ensures.is c.sets.ensures.is
    (c.part_number-undrawn.ensures.is 0) c.place_count.ensures in
    let below : c.deals_below.result ≡ count_below (length (cards s.hands.one)) (drawn_deals_with g) = c.deals_below.ensures.is ∙ ap (λ (n : ℕ). count_below n (drawn_deals_with g)) left in
    omega (arith, is, below)
