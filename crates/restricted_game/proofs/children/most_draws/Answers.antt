use Rattle.std.proofs.Common.{rules, ◌≡◌, ◌+◌, ◌*◌, ◌/◌, ◌%◌, ◌<◌, ◌≤◌, max, ⊎_elim, arith}
use Rattle.std.proofs.lemmas.Bool.{cases_lt}
use Rattle.std.proofs.lemmas.Nat.{div-add-mod', same_from_place}
use Rattle.sim_game.specs.declared.Side.TheVariants.{One, Two}
use Rattle.restricted_game.proofs.PlaceLemmas.{pair_within}
use Rattle.restricted_game.proofs.children.most_draws.Goals as goal

pub loop-pair-preserved : goal.loop-pair-preserved
loop-pair-preserved g c =
    let m = g.G.Game.model c.args.g in
    let width = c.moves-width.result in
    let one = c.loop-pair.pair / width in
    let two = c.loop-pair.pair % width in
    let inside = pair_within c.loop-pair.pair c.moves.result width c.loop-pair-test.true in
    let one_in : one < m.moves One c.args.s = rw (← c.moves.ensures) inside.one_below in
    let two_in : two < m.moves Two c.args.s = rw (← c.moves-width.ensures) inside.two_below in
    let few = (g.met.G.Game.lawful c.args.g).draws_high c.args.s one two c.requires one_in two_in in
    let greater : c.max-most.result ≡ max c.loop-pair.most c.draws.result = search rules in
    record {
      some = omega (arith, c.loop-pair.invariant.some);
      few = omega (arith, c.loop-pair.invariant.few, c.draws.ensures, few);
      draws = λ a b p q below. ⊎_elim
          (λ (lt : a * width + b < c.loop-pair.pair). omega (arith, c.loop-pair.invariant.draws a b p q lt, greater))
          (λ (ge : c.loop-pair.pair ≤ a * width + b).
          let at : a * width + b ≡ one * width + two = omega (arith, div-add-mod' c.loop-pair.pair width) in
          let same = same_from_place a b one two width (rw c.moves-width.ensures q) inside.two_below at in
          rw (same.0, same.1) (omega (arith, c.draws.ensures, greater)))
          (cases_lt (a * width + b) c.loop-pair.pair);
    }
