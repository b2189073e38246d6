use Rattle.worked_rows.proofs.TurnLemmas.{reachable_after, lower_after}
use Rattle.worked_rows.proofs.steps.after.Goals as goal

pub returns : goal.returns
returns g c =
    let m = g.G.Game.model c.args.g in
    let game = g.met.G.Game.lawful c.args.g in
    record {
      is = c.next.ensures;
      reachable = rw c.next.ensures (reachable_after m game c.args.s c.requires.reachable c.args.one c.args.two c.requires.one c.requires.two);
      lower = rw c.next.ensures (lower_after m game c.args.s c.requires.reachable c.args.one c.args.two c.requires.one c.requires.two);
    }
