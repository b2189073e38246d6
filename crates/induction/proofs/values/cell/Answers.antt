use Rattle.sim_game.specs.Model.{Turn, IsTurn}
use Rattle.sim_game.proofs.ReachLemmas.{reachable_turn}
use Rattle.induction.proofs.values.cell.Goals as goal

pub decided_value-value-requires : goal.decided_value-value-requires
decided_value-value-requires g c =
    let m = g.G.Game.model c.args.g in
    let t : Turn = record { one = c.args.moves.0; two = c.args.moves.1; draw = c.loop-d.d } in
    let turn : IsTurn m c.args.s t = record {
      one_below = c.requires.one;
      two_below = c.requires.two;
      draw_below = rw c.draws-d-end.ensures at c.loop-d-test.true;
    } in
    rw c.drawn.ensures (reachable_turn m c.args.s t c.requires.reachable turn)
