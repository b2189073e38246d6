use Rattle.sim_game.specs.Model.{Turn, IsTurn}
use Rattle.sim_game.proofs.ReachLemmas.{reachable_turn}
use Rattle.sim_game.proofs.Game.add_transitions.Goals as goal

pub place-requires : goal.place-requires
place-requires g c =
    let m = g.Self.Game.model c.args.self.now in
    let t : Turn = record { one = c.loop-a.a; two = c.loop-b.b; draw = c.loop-d.d } in
    let turn : IsTurn m c.args.s t = record {
      one_below = rw c.moves-a-end.ensures at c.loop-a-test.true;
      two_below = rw c.moves-b-end.ensures at c.loop-b-test.true;
      draw_below = rw c.draws-d-end.ensures at c.loop-d-test.true;
    } in
    rw c.drawn.ensures (reachable_turn m c.args.s t c.requires turn)
