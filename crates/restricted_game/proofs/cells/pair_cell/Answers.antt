use Rattle.std.proofs.Common.{rules, ◌≡◌, ◌<◌, ◌≤◌, ℕ, unsigned_abs, ℤ, pos, ◌*ℤ◌, w64, SFits, to_z, of_z, refl, sym, ap, subst, ◌∙◌, arith}
use Rattle.std.proofs.lemmas.Int.{to_z-of_z}
use Rattle.sums.specs.Sums.{sum_below}
use Rattle.plan_book.specs.Steps.{rounded}
use Rattle.bounds_board.specs.Views.{bound_in}
use Rattle.restricted_game.specs.Tables.{enclosure_in}
use Rattle.restricted_game.proofs.CellLemmas.{chance_light, cell_small, sum_step}
use Rattle.restricted_game.proofs.cells.pair_cell.Goals as goal

pub weighted-sum-requires-clause-light : goal.weighted-sum-requires-clause-light
weighted-sum-requires-clause-light g c =
    let below : c.loop-draw.draw < (g.G.Game.model c.args.g).draws c.args.s c.args.one c.args.two = search rules in
    rw c.chance-chance.ensures
    (chance_light (g.G.Game.model c.args.g) c.args.s c.args.one c.args.two c.loop-draw.draw (g.met.G.Game.lawful c.args.g) c.requires.here.reachable c.requires.one c.requires.two below)

pub loop-draw-preserved : goal.loop-draw-preserved
loop-draw-preserved g c =
    let m = g.G.Game.model c.args.g in
    let few : c.loop-draw.draw < 13 =
    let stride = c.requires.here.shape.stride in
    omega (arith, stride.draws c.args.one c.args.two c.requires.one c.requires.two, stride.few, c.draws-draw-end.ensures, c.loop-draw-test.true) in
    let number : to_z w64 (of_z w64 c.number.result) ≡ bound_in c.args.side (enclosure_in c.args.table.now c.args.one c.args.two c.loop-draw.draw) = search rules in
    let step = sum_step c.loop-draw.draw
    (λ draw. pos (m.chance c.args.s c.args.one c.args.two draw) *ℤ bound_in c.args.side (enclosure_in c.args.table.now c.args.one c.args.two draw))
    (to_z w64 c.loop-draw.sum-bits) c.weighted-sum.result
    few c.loop-draw.invariant.sum_so_far c.loop-draw.invariant.small (c.weighted-sum.ensures.value ∙ rw (c.chance-chance.ensures, number) refl) c.weighted-sum.ensures.small in
    record { sum_so_far = step.0; small = step.1 }

pub returns-clause-value : goal.returns-clause-value
returns-clause-value g c =
    let m = g.G.Game.model c.args.g in
    let f : SFits w64 c.quotient.result = search rules in
    let all : c.loop-draw.draw ≡ (g.G.Game.model c.args.g).draws c.args.s c.args.one c.args.two = search rules in
    to_z-of_z w64 c.quotient.result f ∙ c.quotient.ensures
    ∙ ap (rounded c.args.side)
    (c.loop-draw.invariant.sum_so_far ∙ ap
    (λ (n : ℕ). sum_below n (λ draw. pos (m.chance c.args.s c.args.one c.args.two draw) *ℤ bound_in c.args.side (enclosure_in c.args.table.now c.args.one c.args.two draw))) all)

pub returns-clause-small : goal.returns-clause-small
returns-clause-small g c =
    let m = g.G.Game.model c.args.g in
    subst (λ (z : ℤ). unsigned_abs z ≤ 4000000000) (sym (returns-clause-value g c))
    (cell_small m c.args.s c.args.side c.args.table.now c.args.one c.args.two (g.met.G.Game.lawful c.args.g) c.requires.here.reachable c.requires.here.shape c.requires.one c.requires.two)
