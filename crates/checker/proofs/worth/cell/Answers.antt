use Rattle.std.proofs.Common.{rules, ◌≡◌, ◌<◌, w64, SFits, arith}
use Rattle.std.proofs.lemmas.Int.{ints, to_z-of_z}
use Rattle.sim_game.specs.Sides.{draws_of, chance_of, child_of, turn_reward}
use Rattle.sim_game.proofs.RewardLemmas.{reward_small}
use Rattle.sim_game.proofs.SideLemmas.{side_turn}
use Rattle.checker.proofs.BoundLemmas.{bound_small, child_reachable, chance_light, turn_small, cell_small, cell_is, part_of, one_more}
use Rattle.checker.proofs.worth.cell.Goals as goal

pub bound_near-bound-requires-clause-reachable : goal.bound_near-bound-requires-clause-reachable
bound_near-bound-requires-clause-reachable g c =
    let m = g.G.Game.model c.args.g in
    let side = c.args.sheet.now.side in
    let u : c.loop-d.d < draws_of m side c.args.s c.args.own c.args.reply = rw (c.draws-d-end.ensures, c.move_of_one-a.ensures, c.move_of_two-b.ensures) at c.loop-d-test.true in
    let child : c.drawn.result ≡ child_of m side c.args.s c.args.own c.args.reply c.loop-d.d = rw (c.move_of_one-a.ensures, c.move_of_two-b.ensures) at c.drawn.ensures in
    rw child (child_reachable m side c.args.s c.args.own c.args.reply c.requires.reachable c.requires.own c.requires.reply c.loop-d.d u)

pub weighted-sum-requires-clause-light : goal.weighted-sum-requires-clause-light
weighted-sum-requires-clause-light g c =
    let m = g.G.Game.model c.args.g in
    let side = c.args.sheet.now.side in
    let u : c.loop-d.d < draws_of m side c.args.s c.args.own c.args.reply = rw (c.draws-d-end.ensures, c.move_of_one-a.ensures, c.move_of_two-b.ensures) at c.loop-d-test.true in
    let chance : c.chance.result ≡ chance_of m side c.args.s c.args.own c.args.reply c.loop-d.d = rw (c.move_of_one-a.ensures, c.move_of_two-b.ensures) at c.chance.ensures in
    rw chance (chance_light m side c.args.s c.args.own c.args.reply c.requires.reachable c.requires.own c.requires.reply (g.met.G.Game.lawful c.args.g) c.loop-d.d u)

pub with_reward-paid-requires : goal.with_reward-paid-requires
with_reward-paid-requires g c =
    let m = g.G.Game.model c.args.g in
    let game = g.met.G.Game.lawful c.args.g in
    let side = c.args.sheet.now.side in
    let u : c.loop-d.d < draws_of m side c.args.s c.args.own c.args.reply = rw (c.draws-d-end.ensures, c.move_of_one-a.ensures, c.move_of_two-b.ensures) at c.loop-d-test.true in
    let child : c.drawn.result ≡ child_of m side c.args.s c.args.own c.args.reply c.loop-d.d = rw (c.move_of_one-a.ensures, c.move_of_two-b.ensures) at c.drawn.ensures in
    let reward : c.turn_reward.result ≡ turn_reward m side c.args.s c.args.own c.args.reply c.loop-d.d = rw (c.move_of_one-a.ensures, c.move_of_two-b.ensures) at c.turn_reward.ensures in
    let reachable = child_reachable m side c.args.s c.args.own c.args.reply c.requires.reachable c.requires.own c.requires.reply c.loop-d.d u in
    let fits : SFits w64 c.bound_near-bound.result = search rules in
    let fits_reward : SFits w64 c.turn_reward.result = search rules in
    rw (to_z-of_z w64 c.bound_near-bound.result fits, to_z-of_z w64 c.turn_reward.result fits_reward, c.bound_near-bound.ensures, child, reward) (record {
      reward = reward_small m game side c.args.s c.args.own c.args.reply c.loop-d.d c.requires.reachable
          (side_turn m side c.args.s c.args.own c.args.reply c.loop-d.d c.requires.own c.requires.reply u);
      bound = bound_small m game c.args.sheet.now (child_of m side c.args.s c.args.own c.args.reply c.loop-d.d) c.requires.readable reachable;
    })

pub weighted-sum-requires-clause-small : goal.weighted-sum-requires-clause-small
weighted-sum-requires-clause-small g c =
    let m = g.G.Game.model c.args.g in
    let side = c.args.sheet.now.side in
    let u : c.loop-d.d < draws_of m side c.args.s c.args.own c.args.reply = rw (c.draws-d-end.ensures, c.move_of_one-a.ensures, c.move_of_two-b.ensures) at c.loop-d-test.true in
    let child : c.drawn.result ≡ child_of m side c.args.s c.args.own c.args.reply c.loop-d.d = rw (c.move_of_one-a.ensures, c.move_of_two-b.ensures) at c.drawn.ensures in
    let reward : c.turn_reward.result ≡ turn_reward m side c.args.s c.args.own c.args.reply c.loop-d.d = rw (c.move_of_one-a.ensures, c.move_of_two-b.ensures) at c.turn_reward.ensures in
    let fits : SFits w64 c.bound_near-bound.result = search rules in
    let fits_reward : SFits w64 c.turn_reward.result = search rules in
    let fits_paid : SFits w64 c.with_reward-paid.result = search rules in
    let paid = rw (to_z-of_z w64 c.bound_near-bound.result fits, to_z-of_z w64 c.turn_reward.result fits_reward, c.bound_near-bound.ensures, child, reward) at c.with_reward-paid.ensures in
    rw (to_z-of_z w64 c.with_reward-paid.result fits_paid, paid)
    (turn_small m (g.met.G.Game.lawful c.args.g) c.args.sheet.now c.args.s c.args.own c.args.reply c.requires.readable c.requires.reachable c.requires.own c.requires.reply c.loop-d.d u)

pub loop-d-preserved : goal.loop-d-preserved
loop-d-preserved g c =
    let m = g.G.Game.model c.args.g in
    let side = c.args.sheet.now.side in
    let child : c.drawn.result ≡ child_of m side c.args.s c.args.own c.args.reply c.loop-d.d = rw (c.move_of_one-a.ensures, c.move_of_two-b.ensures) at c.drawn.ensures in
    let chance : c.chance.result ≡ chance_of m side c.args.s c.args.own c.args.reply c.loop-d.d = rw (c.move_of_one-a.ensures, c.move_of_two-b.ensures) at c.chance.ensures in
    let reward : c.turn_reward.result ≡ turn_reward m side c.args.s c.args.own c.args.reply c.loop-d.d = rw (c.move_of_one-a.ensures, c.move_of_two-b.ensures) at c.turn_reward.ensures in
    let fits : SFits w64 c.bound_near-bound.result = search rules in
    let fits_reward : SFits w64 c.turn_reward.result = search rules in
    let fits_paid : SFits w64 c.with_reward-paid.result = search rules in
    let paid = rw (to_z-of_z w64 c.bound_near-bound.result fits, to_z-of_z w64 c.turn_reward.result fits_reward, c.bound_near-bound.ensures, child, reward) at c.with_reward-paid.ensures in
    let part = rw (to_z-of_z w64 c.with_reward-paid.result fits_paid, paid, chance) at c.weighted-sum.ensures.value in
    record {
      so_far = one_more c.loop-d.d (part_of m c.args.sheet.now c.args.s c.args.own c.args.reply) _ _ _ c.loop-d.invariant.so_far part (omega (arith, ints));
      small = omega (arith, ints);
      few = c.loop-d.invariant.few;
    }

pub returns-clause-value : goal.returns-clause-value
returns-clause-value g c =
    let m = g.G.Game.model c.args.g in
    let side = c.args.sheet.now.side in
    let all : c.loop-d.d ≡ c.draws-d-end.result = omega arith in
    let count : c.loop-d.d ≡ draws_of m side c.args.s c.args.own c.args.reply = rw (c.draws-d-end.ensures, c.move_of_one-a.ensures, c.move_of_two-b.ensures) at all in
    let fits : SFits w64 c.quotient.result = search rules in
    rw (to_z-of_z w64 c.quotient.result fits) (cell_is m c.args.sheet.now c.args.s c.args.own c.args.reply c.loop-d.d _ c.quotient.result count c.loop-d.invariant.so_far c.quotient.ensures)

pub returns-clause-small : goal.returns-clause-small
returns-clause-small g c =
    rw (returns-clause-value g c)
    (cell_small (g.G.Game.model c.args.g) (g.met.G.Game.lawful c.args.g) c.args.sheet.now c.args.s c.args.own c.args.reply c.requires.readable c.requires.reachable c.requires.own c.requires.reply)
