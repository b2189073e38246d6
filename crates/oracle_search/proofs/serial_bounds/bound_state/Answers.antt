use Rattle.std.proofs.Common.{◌≤◌, ℕ, sym, ap, subst, ◌∙◌}
use Rattle.sim_game.specs.declared.Side.{Side}
use Rattle.sim_game.specs.declared.Side.TheVariants.{One, Two}
use Rattle.sim_game.specs.Sides.{IsNoTighter}
use Rattle.sim_game.proofs.SideLemmas.{looser_trans}
use Rattle.plan_book.specs.Serial.{serial_bound, tree_size}
use Rattle.oracle_search.specs.Workers.{WorkerView, at_work}
use Rattle.oracle_search.specs.Searches.{IsWorked}
use Rattle.bounds_board.specs.Views.{known_bound}
use Rattle.bounds_board.proofs.KnownLemmas.{known_later}
use Rattle.bounds_board.proofs.ViewLemmas.{later_trans}
use Rattle.oracle_search.proofs.BetterLemmas.{met_known, enclosure_known, serial_met, ahead_known}
use Rattle.oracle_search.proofs.WorkLemmas.{worked_after, worked_read, at_row_after}
use Rattle.oracle_search.proofs.serial_bounds.bound_state.Given.{Over}
use Rattle.oracle_search.proofs.serial_bounds.bound_state.Goals as goal
use Rattle.oracle_search.proofs.serial_bounds.bound_state.Goals.{After-known_bounds-enclosure, After-bound_side-2}

-- what the searches of one side and of both kept
one : (g : Over) (c : After-known_bounds-enclosure g) → IsWorked (g.G.Game.model c.args.setup.now.game) c.args.s (at_work (g.B.Bounds.view c.args.board.now) c.args.worker.now)
    (at_work (g.B.Bounds.view c.known_bounds-enclosure.new.board) c.bound_side.new.worker)
one g c = worked_read c.bound_side.ensures.worked c.known_bounds-enclosure.ensures.later c.known_bounds-enclosure.ensures.entries

both : (g : Over) (c : After-bound_side-2 g) → IsWorked (g.G.Game.model c.args.setup.now.game) c.args.s (at_work (g.B.Bounds.view c.args.board.now) c.args.worker.now)
    (at_work (g.B.Bounds.view c.bound_side-2.new.board) c.bound_side-2.new.worker)
both g c = worked_after (worked_read c.bound_side.ensures.worked c.known_bounds-enclosure.ensures.later c.known_bounds-enclosure.ensures.entries) c.bound_side-2.ensures.worked

pub returns-then-enclosure-clause-worked : goal.returns-then-enclosure-clause-worked
returns-then-enclosure-clause-worked g c = one g (goal.at.returns-then-enclosure-clause-worked g c).After-known_bounds-enclosure

pub returns-then-enclosure-clause-tight : goal.returns-then-enclosure-clause-tight
returns-then-enclosure-clause-tight g c visits =
    let m = g.G.Game.model c.args.setup.now.game in
    let game = g.met.G.Game.lawful c.args.setup.now.game in
    let here = at_row_after c.requires.here c.bound_side.ensures.worked in
    let w = g.B.Bounds.view c.known_bounds-enclosure.new.board in
    let e = c.known_bounds-enclosure.result in let both = c.known_bounds-enclosure.ensures.enclosed in let known = c.known_bounds-enclosure.ensures.known in
    serial_met m game c.args.s w here.reachable (enclosure_known m game c.args.s w e both known) (met_known m game c.args.s w e both known c.if-enclosure.true)

pub known_bounds-enclosure-requires : goal.known_bounds-enclosure-requires
known_bounds-enclosure-requires g c =
    let here = at_row_after c.requires.here c.bound_side.ensures.worked in record { game = here.game; reachable = here.reachable; row = here.has_row.holds }

pub bound_side-requires-2-clause-here : goal.bound_side-requires-2-clause-here
bound_side-requires-2-clause-here g c = at_row_after c.requires.here (one g (goal.at.bound_side-requires-2-clause-here g c).After-known_bounds-enclosure)

pub known_bounds-last-requires : goal.known_bounds-last-requires
known_bounds-last-requires g c =
    let here = at_row_after c.requires.here (both g (goal.at.known_bounds-last-requires g c).After-bound_side-2) in
    record { game = here.game; reachable = here.reachable; row = here.has_row.holds }

pub returns-in_err-upper-clause-worked : goal.returns-in_err-upper-clause-worked
returns-in_err-upper-clause-worked g c = both g (goal.at.returns-in_err-upper-clause-worked g c).After-bound_side-2

pub returns-clause-worked : goal.returns-clause-worked
returns-clause-worked g c =
    worked_read (both g (goal.at.returns-clause-worked g c).After-bound_side-2) c.known_bounds-last.ensures.later c.known_bounds-last.ensures.entries

pub returns-clause-tight : goal.returns-clause-tight
returns-clause-tight g c visits = tight where
  tight : (side : Side) → IsNoTighter side (serial_bound (g.G.Game.model c.args.setup.now.game) side c.args.s)
      (known_bound (g.G.Game.model c.args.setup.now.game) (g.B.Bounds.view c.known_bounds-last.new.board) side c.args.s)
  tight One =
      let m = g.G.Game.model c.args.setup.now.game in
      looser_trans One _ _ _ (c.in_ok-lower.ensures.tight visits.0 (visits.1 One)) (known_later m (g.B.Bounds.view c.bound_side.new.board) (g.B.Bounds.view c.known_bounds-last.new.board) One c.args.s
      (later_trans _ _ _ c.known_bounds-enclosure.ensures.later (later_trans _ _ _ c.bound_side-2.ensures.worked.board.later c.known_bounds-last.ensures.later)))
  tight Two =
      let m = g.G.Game.model c.args.setup.now.game in
      looser_trans Two _ _ _ (c.in_ok-upper.ensures.tight (ap (λ (w : WorkerView). w.turns.may_stop) c.bound_side.ensures.same ∙ visits.0)
      (subst (λ (x : ℕ). tree_size m c.args.s ≤ x) (sym c.bound_side.ensures.other) (visits.1 Two)))
      (known_later m (g.B.Bounds.view c.bound_side-2.new.board) (g.B.Bounds.view c.known_bounds-last.new.board) Two c.args.s c.known_bounds-last.ensures.later)

pub returns-clause-ahead : goal.returns-clause-ahead
returns-clause-ahead g c is =
    ahead_known (g.G.Game.model c.args.setup.now.game) c.args.s (g.B.Bounds.view c.known_bounds-last.new.board) c.known_bounds-last.result c.in_ok-lower.lower c.in_ok-upper.upper
    c.known_bounds-last.ensures.known c.in_ok-lower.ensures.found c.in_ok-upper.ensures.found (c.is_ahead.ensures is)
