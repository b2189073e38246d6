use Rattle.std.proofs.Common.{rules, ◌≡◌, w64, SFits}
use Rattle.std.proofs.lemmas.Int.{to_z-of_z}
use Rattle.sim_game.specs.Model.{IsGame}
use Rattle.serial_ab.specs.declared.windowed.SerialEnd.TheVariants.{Cut}
use Rattle.serial_ab.proofs.EndLemmas.{range_window, value_of, not_cut, shown, whole_known}
use Rattle.serial_ab.proofs.windowed.search_window.Goals as goal

pub search_state-requires-clause-window : goal.search_state-requires-clause-window
search_state-requires-clause-window g c =
    let f0 : SFits w64 c.args.window.0 = search rules in
    let f1 : SFits w64 c.args.window.1 = search rules in
    let fw : SFits w64 c.worse.result = search rules in
    let fb : SFits w64 c.better.result = search rules in
    let worse = simp to_z-of_z at c.worse.ensures in
    let better = simp to_z-of_z at c.better.ensures in
    rw (to_z-of_z w64 c.worse.result fw, to_z-of_z w64 c.better.result fb, worse, better)
    (range_window (g.G.Game.model c.args.task.now.game) (g.met.G.Game.lawful c.args.task.now.game) c.args.task.now.side c.args.s c.args.window.0 c.args.window.1
    c.requires.here.reachable c.requires.window)

pub returns-in-Ok : goal.returns-in-Ok
returns-in-Ok g c =
    let m = g.G.Game.model c.args.task.now.game in
    let v = g.B.Bounds.view c.search_state.new.board in
    let f0 : SFits w64 c.args.window.0 = search rules in
    let f1 : SFits w64 c.args.window.1 = search rules in
    let fw : SFits w64 c.worse.result = search rules in
    let fb : SFits w64 c.better.result = search rules in
    let fx : SFits w64 c.in-Ok.value = search rules in
    let worse = simp to_z-of_z at c.worse.ensures in
    let better = simp to_z-of_z at c.better.ensures in
    let game : IsGame m = g.met.G.Game.lawful c.args.task.now.game in
    let found = rw (to_z-of_z w64 c.worse.result fw, to_z-of_z w64 c.better.result fb, worse, better) at c.in-Ok.ensures.ends.ends in
    let placed = simp to_z-of_z at c.placed.ensures in
    let whole = not_cut c.args.window.0 c.args.window.1 c.in-Ok.value c.placed.result placed in
    record {
      remembered = c.search_state.ensures.ends.remembered;
      same_limit = c.search_state.ensures.ends.same_limit;
      ends = record {
        kept = c.search_state.ensures.ends.kept;
        value = value_of m c.args.task.now.side c.args.s c.args.window.0 c.args.window.1 v c.in-Ok.value c.placed.result c.requires.window.wide found placed;
        cut = λ _ e. let same : c.placed.result ≡ Cut = cc in absurd (whole same);
        none_left = λ e. let none = c.search_state.ensures.none_left e in let is = c.in-Ok.is in cc;
        enough = λ _ h e. let same : c.placed.result ≡ Cut = cc in whole same;
        entered = c.search_state.ensures.entered;
        below = λ goes _. let ok = c.search_state.ensures.below goes in let is = c.in-Ok.is in search rules;
        seen = λ goes. shown m c.args.task.now.side c.args.s c.args.window.0 c.args.window.1 v c.in-Ok.value c.placed.result goes c.requires.window.wide found placed;
        whole = λ p q goes _. whole_known m game c.args.task.now.side c.args.s v c.in-Ok.value c.requires.here.reachable goes (rw (p, q) at c.requires.window.wide) (rw (p, q) at found);
        full = λ e. cc;
      };
    }
