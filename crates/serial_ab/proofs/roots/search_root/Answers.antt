use Rattle.std.proofs.Common.{rules, w64, SFits}
use Rattle.std.proofs.lemmas.Int.{to_z-of_z}
use Rattle.sim_game.proofs.ReachLemmas.{reachable_root}
use Rattle.serial_ab.proofs.RootLemmas.{whole_wide, root_ends}
use Rattle.serial_ab.proofs.SearchLemmas.{whole_window}
use Rattle.serial_ab.proofs.roots.search_root.Goals as goal

pub search_state-requires-clause-window : goal.search_state-requires-clause-window
search_state-requires-clause-window g c =
    let m = g.G.Game.model c.args.g in
    let worse : SFits w64 c.opening_bound.result = search rules in
    let better : SFits w64 c.opening_bound-2.result = search rules in
    rw (to_z-of_z w64 c.opening_bound.result worse, to_z-of_z w64 c.opening_bound-2.result better, c.opening_bound.ensures, c.opening_bound-2.ensures, c.other.ensures)
    (whole_window m (g.met.G.Game.lawful c.args.g) c.args.side c.root.result (rw c.root.ensures (reachable_root m)) (whole_wide m (g.met.G.Game.lawful c.args.g) c.args.side c.requires.searched))

pub returns-clause-ends : goal.returns-clause-ends
returns-clause-ends g c =
    let worse : SFits w64 c.opening_bound.result = search rules in
    let better : SFits w64 c.opening_bound-2.result = search rules in
    let ends = rw (
      to_z-of_z w64 c.opening_bound.result worse,
      to_z-of_z w64 c.opening_bound-2.result better,
      c.opening_bound.ensures,
      c.opening_bound-2.ensures,
      c.other.ensures,
      c.root.ensures,
    ) at c.search_state.ensures.ends.ends in
    root_ends (g.G.Game.model c.args.g) (g.met.G.Game.lawful c.args.g) c.args.side (g.B.Bounds.view c.search_state.new.board) c.args.worker.now.visits
    c.search_state.new.worker.visits c.search_state.result c.requires.searched c.search_state.ensures.none_left
    (c.search_state.ensures.below (rw c.root.ensures c.requires.searched.goes_on)) ends
