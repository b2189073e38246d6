use Rattle.std.proofs.Common.{rules, w64, SFits, subst}
use Rattle.std.proofs.lemmas.Int.{to_z-of_z}
use Rattle.sim_game.specs.Model.{IsGame}
use Rattle.restricted_game.specs.Children.{HasRow}
use Rattle.restricted_game.proofs.ReadLemmas.{end_read, read_small, row_read}
use Rattle.restricted_game.proofs.reading.read_state.Goals as goal

pub returns-in-Some-clause-read : goal.returns-in-Some-clause-read
returns-in-Some-clause-read g c =
    let m = g.G.Game.model c.args.g in
    let v = g.B.Bounds.view c.args.board.now in
    let game : IsGame m = g.met.G.Game.lawful c.args.g in
    let row = subst (HasRow m v c.args.t) c.in-Some.is c.requires.here.has_row in
    row_read m game v (g.B.Bounds.view c.known_bounds.new.board) c.args.t c.requires.here.reachable c.in-Some.row c.known_bounds.result c.known_bounds.ensures.later row
    c.known_bounds.ensures.enclosed c.known_bounds.ensures.known

pub returns-in-Some-clause-small : goal.returns-in-Some-clause-small
returns-in-Some-clause-small g c =
    read_small (g.G.Game.model c.args.g) _ _ c.args.t c.known_bounds.result (g.met.G.Game.lawful c.args.g) c.requires.here.reachable (returns-in-Some-clause-read g c)

pub returns-in-None-clause-read : goal.returns-in-None-clause-read
returns-in-None-clause-read g c =
    let m = g.G.Game.model c.args.g in
    let v = g.B.Bounds.view c.args.board.now in
    let f : SFits w64 c.end_bound-payoff.result = search rules in
    rw (to_z-of_z w64 c.end_bound-payoff.result f)
    (end_read m v c.args.t _ (g.met.G.Game.lawful c.args.g) c.requires.here.reachable (subst (HasRow m v c.args.t) c.in-None.is c.requires.here.has_row) c.end_bound-payoff.ensures)
