use Rattle.std.proofs.Common.{rules, ◌≡◌, Err}
use Rattle.sim_game.specs.Model.{Turn, IsTurn}
use Rattle.sim_game.proofs.ReachLemmas.{reachable_turn}
use Rattle.induction.proofs.listed.add_behind.Goals as goal

pub add-requires-clause-reachable : goal.add-requires-clause-reachable
add-requires-clause-reachable g c =
    let m = g.G.Game.model c.args.g in
    let t : Turn = record { one = c.loop-a.a; two = c.loop-b.b; draw = c.loop-d.d } in
    let turn : IsTurn m c.args.s t = record {
      one_below = rw c.moves-a-end.ensures at c.loop-a-test.true;
      two_below = rw c.moves-b-end.ensures at c.loop-b-test.true;
      draw_below = rw c.draws-d-end.ensures at c.loop-d-test.true;
    } in
    rw c.drawn.ensures (reachable_turn m c.args.s t c.requires.reachable turn)

pub returns-in_err-add-clause-err : goal.returns-in_err-add-clause-err
returns-in_err-add-clause-err g c =
    let stopped : c.from_residual.result ≡ Err c.in_err-add.field-0.0 = search rules in
    rw stopped (λ b. c.in_err-add.ensures.err b)
