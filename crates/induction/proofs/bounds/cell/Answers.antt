use Rattle.std.proofs.Common.{rules, ◌≡◌, ◌<◌, w64, SFits, arith}
use Rattle.induction.specs.Places.{place_word}
use Rattle.std.proofs.lemmas.Int.{ints, to_z-of_z}
use Rattle.sim_game.specs.Sides.{draws_of, chance_of, child_of, turn_reward}
use Rattle.sim_game.proofs.RewardLemmas.{reward_small}
use Rattle.sim_game.proofs.SideLemmas.{side_turn}
use Rattle.induction.proofs.BoundLemmas.{within_small, bound_within, number_within, cell_by_rows, child_reachable, chance_light, cell_is, part_of, one_more}
use Rattle.induction.proofs.bounds.cell.Goals as goal

pub bound_by-bound-requires-clause-reachable : goal.bound_by-bound-requires-clause-reachable
bound_by-bound-requires-clause-reachable g c =
    let m = g.G.Game.model c.args.g in
    let side = c.args.side in
    let u : c.loop-d.d < draws_of m side c.args.s c.args.own c.args.reply = rw (c.draws-d-end.ensures, c.move_of_one-a.ensures, c.move_of_two-b.ensures) at c.loop-d-test.true in
    let child : c.drawn.result ≡ child_of m side c.args.s c.args.own c.args.reply c.loop-d.d = rw (c.move_of_one-a.ensures, c.move_of_two-b.ensures) at c.drawn.ensures in
    rw child (child_reachable m (g.met.G.Game.lawful c.args.g) side c.args.s c.args.own c.args.reply c.requires.reachable c.requires.own c.requires.reply c.loop-d.d u)

pub weighted-sum-requires-clause-light : goal.weighted-sum-requires-clause-light
weighted-sum-requires-clause-light g c =
    let m = g.G.Game.model c.args.g in
    let side = c.args.side in
    let u : c.loop-d.d < draws_of m side c.args.s c.args.own c.args.reply = rw (c.draws-d-end.ensures, c.move_of_one-a.ensures, c.move_of_two-b.ensures) at c.loop-d-test.true in
    let chance : c.chance.result ≡ chance_of m side c.args.s c.args.own c.args.reply c.loop-d.d = rw (c.move_of_one-a.ensures, c.move_of_two-b.ensures) at c.chance.ensures in
    rw chance (chance_light m (g.met.G.Game.lawful c.args.g) side c.args.s c.args.own c.args.reply c.requires.reachable c.requires.own c.requires.reply c.loop-d.d u)

pub with_reward-number-requires : goal.with_reward-number-requires
with_reward-number-requires g c =
    let m = g.G.Game.model c.args.g in
    let place = (g.G.Game.numbering c.args.g).place in
    let game = g.met.G.Game.lawful c.args.g in
    let side = c.args.side in
    let u : c.loop-d.d < draws_of m side c.args.s c.args.own c.args.reply = rw (c.draws-d-end.ensures, c.move_of_one-a.ensures, c.move_of_two-b.ensures) at c.loop-d-test.true in
    let reward : c.turn_reward.result ≡ turn_reward m side c.args.s c.args.own c.args.reply c.loop-d.d = rw (c.move_of_one-a.ensures, c.move_of_two-b.ensures) at c.turn_reward.ensures in
    let fits : SFits w64 c.bound_by-bound.result = search rules in
    let fits_reward : SFits w64 c.turn_reward.result = search rules in
    let child : c.drawn.result ≡ child_of m side c.args.s c.args.own c.args.reply c.loop-d.d = rw (c.move_of_one-a.ensures, c.move_of_two-b.ensures) at c.drawn.ensures in
    let reach = child_reachable m game side c.args.s c.args.own c.args.reply c.requires.reachable c.requires.own c.requires.reply c.loop-d.d u in
    rw (to_z-of_z w64 c.bound_by-bound.result fits, to_z-of_z w64 c.turn_reward.result fits_reward, c.bound_by-bound.ensures, child, reward) (record {
      reward = reward_small m game side c.args.s c.args.own c.args.reply c.loop-d.d c.requires.reachable
          (side_turn m side c.args.s c.args.own c.args.reply c.loop-d.d c.requires.own c.requires.reply u);
      bound = within_small m game (child_of m side c.args.s c.args.own c.args.reply c.loop-d.d) _ reach
          (bound_within m game side c.args.rows.now place (place_word c.args.bounds.now) (child_of m side c.args.s c.args.own c.args.reply c.loop-d.d) c.requires.placed reach);
    })

pub weighted-sum-requires-clause-small : goal.weighted-sum-requires-clause-small
weighted-sum-requires-clause-small g c =
    let m = g.G.Game.model c.args.g in
    let place = (g.G.Game.numbering c.args.g).place in
    let game = g.met.G.Game.lawful c.args.g in
    let side = c.args.side in
    let u : c.loop-d.d < draws_of m side c.args.s c.args.own c.args.reply = rw (c.draws-d-end.ensures, c.move_of_one-a.ensures, c.move_of_two-b.ensures) at c.loop-d-test.true in
    let child : c.drawn.result ≡ child_of m side c.args.s c.args.own c.args.reply c.loop-d.d = rw (c.move_of_one-a.ensures, c.move_of_two-b.ensures) at c.drawn.ensures in
    let reward : c.turn_reward.result ≡ turn_reward m side c.args.s c.args.own c.args.reply c.loop-d.d = rw (c.move_of_one-a.ensures, c.move_of_two-b.ensures) at c.turn_reward.ensures in
    let fits : SFits w64 c.bound_by-bound.result = search rules in
    let fits_reward : SFits w64 c.turn_reward.result = search rules in
    let fits_number : SFits w64 c.with_reward-number.result = search rules in
    let number = rw (to_z-of_z w64 c.bound_by-bound.result fits, to_z-of_z w64 c.turn_reward.result fits_reward, c.bound_by-bound.ensures, child, reward) at c.with_reward-number.ensures in
    rw (to_z-of_z w64 c.with_reward-number.result fits_number, number)
    (within_small m game c.args.s _ c.requires.reachable
    (number_within m game side c.args.s c.args.own c.args.reply c.requires.reachable c.requires.own c.requires.reply
    c.args.rows.now place (place_word c.args.bounds.now) c.requires.placed c.loop-d.d u))

pub loop-d-preserved : goal.loop-d-preserved
loop-d-preserved g c =
    let m = g.G.Game.model c.args.g in
    let side = c.args.side in
    let child : c.drawn.result ≡ child_of m side c.args.s c.args.own c.args.reply c.loop-d.d = rw (c.move_of_one-a.ensures, c.move_of_two-b.ensures) at c.drawn.ensures in
    let chance : c.chance.result ≡ chance_of m side c.args.s c.args.own c.args.reply c.loop-d.d = rw (c.move_of_one-a.ensures, c.move_of_two-b.ensures) at c.chance.ensures in
    let reward : c.turn_reward.result ≡ turn_reward m side c.args.s c.args.own c.args.reply c.loop-d.d = rw (c.move_of_one-a.ensures, c.move_of_two-b.ensures) at c.turn_reward.ensures in
    let fits : SFits w64 c.bound_by-bound.result = search rules in
    let fits_reward : SFits w64 c.turn_reward.result = search rules in
    let fits_number : SFits w64 c.with_reward-number.result = search rules in
    let number = rw (to_z-of_z w64 c.bound_by-bound.result fits, to_z-of_z w64 c.turn_reward.result fits_reward, c.bound_by-bound.ensures, child, reward) at c.with_reward-number.ensures in
    let part = rw (to_z-of_z w64 c.with_reward-number.result fits_number, number, chance) at c.weighted-sum.ensures.value in
    record {
      so_far = one_more c.loop-d.d (part_of m side c.args.rows.now c.args.s c.args.own c.args.reply) _ _ _ c.loop-d.invariant.so_far part (omega (arith, ints));
      small = omega (arith, ints);
      few = c.loop-d.invariant.few;
    }

pub returns-clause-value : goal.returns-clause-value
returns-clause-value g c =
    let m = g.G.Game.model c.args.g in
    let side = c.args.side in
    let all : c.loop-d.d ≡ c.draws-d-end.result = omega arith in
    let count : c.loop-d.d ≡ draws_of m side c.args.s c.args.own c.args.reply = rw (c.draws-d-end.ensures, c.move_of_one-a.ensures, c.move_of_two-b.ensures) at all in
    let fits : SFits w64 c.quotient.result = search rules in
    rw (to_z-of_z w64 c.quotient.result fits) (cell_is m side c.args.rows.now c.args.s c.args.own c.args.reply c.loop-d.d _ c.quotient.result count c.loop-d.invariant.so_far c.quotient.ensures)

pub returns-clause-small : goal.returns-clause-small
returns-clause-small g c =
    let m = g.G.Game.model c.args.g in
    let place = (g.G.Game.numbering c.args.g).place in
    let game = g.met.G.Game.lawful c.args.g in
    rw (returns-clause-value g c)
    (within_small m game c.args.s _ c.requires.reachable
    (cell_by_rows m game c.args.side c.args.s c.args.own c.args.reply c.requires.reachable c.requires.own c.requires.reply c.args.rows.now place (place_word c.args.bounds.now) c.requires.placed))
