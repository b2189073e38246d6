use Rattle.std.proofs.Common.{ap, ◌∙◌, arith}
use Rattle.goofspiel.specs.Counts.{choose}
use Rattle.goofspiel.proofs.PlaceLemmas.{deal_few, deal_number_is}
use Rattle.goofspiel.proofs.places.deal_number.Goals as goal

pub score_number-requires-clause-low : goal.score_number-requires-clause-low
score_number-requires-clause-low c = let (spent, same, here) = c.requires.dealt in rw same (here.near.low)

pub score_number-requires-clause-high : goal.score_number-requires-clause-high
score_number-requires-clause-high c = let (spent, same, here) = c.requires.dealt in rw same (here.near.high)

pub overflow_add-result-2 : goal.overflow_add-result-2
overflow_add-result-2 c =
    let g = c.args.setting.now in
    let is = deal_number_is g c.args.far c.args.s _ _ _ _ (c.part_number.ensures.is 1 c.requires.parts.one) (c.part_number-2.ensures.is 1 c.requires.parts.two)
    (c.choose-hands.ensures.is ∙ ap (choose g.count) (c.size.ensures 1)) c.score_number.ensures in
    omega (arith, is, deal_few g c.requires.valid c.args.far c.args.s c.requires.dealt c.requires.parts c.requires.far)

pub returns-clause-is : goal.returns-clause-is
returns-clause-is c =
    let g = c.args.setting.now in
    deal_number_is g c.args.far c.args.s _ _ _ _ (c.part_number.ensures.is 1 c.requires.parts.one) (c.part_number-2.ensures.is 1 c.requires.parts.two)
    (c.choose-hands.ensures.is ∙ ap (choose g.count) (c.size.ensures 1)) c.score_number.ensures

pub returns-clause-few : goal.returns-clause-few
returns-clause-few c =
    let g = c.args.setting.now in
    let is = deal_number_is g c.args.far c.args.s _ _ _ _ (c.part_number.ensures.is 1 c.requires.parts.one) (c.part_number-2.ensures.is 1 c.requires.parts.two)
    (c.choose-hands.ensures.is ∙ ap (choose g.count) (c.size.ensures 1)) c.score_number.ensures in
    omega (arith, is, deal_few g c.requires.valid c.args.far c.args.s c.requires.dealt c.requires.parts c.requires.far)
