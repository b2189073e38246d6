use Rattle.std.proofs.Common.{rules, w64, SFits, sym, ◌∙◌}
use Rattle.std.proofs.lemmas.Int.{to_z-of_z}
use Rattle.std.proofs.lemmas.Result.{err_from_is_err_and}
use Rattle.oracle_search.specs.Workers.{at_work}
use Rattle.oracle_search.specs.Searches.{IsWorked}
use Rattle.oracle_search.proofs.BetterLemmas.{gap_within}
use Rattle.oracle_search.proofs.KeyLemmas.{done_later, key_done}
use Rattle.oracle_search.proofs.WorkLemmas.{worked_none, worked_after, worked_read, node_of, at_row_after, close_below, stop_board}
use Rattle.oracle_search.proofs.sweeps.is_enough.Given.{Over}
use Rattle.oracle_search.proofs.sweeps.is_enough.Goals as goal
use Rattle.oracle_search.proofs.sweeps.is_enough.Goals.{After-is_within, After-bound_state}

-- what was kept up to the first reading, and up to the serial searches
looked : (g : Over) (c : After-is_within g) → IsWorked (g.G.Game.model c.args.setup.now.game) c.args.s (at_work (g.B.Bounds.view c.args.board.now) c.args.worker.now)
    (at_work (g.B.Bounds.view c.is_within.new.board) c.args.worker.now)
looked g c = worked_read (worked_none c.requires.here.kept) c.is_within.ensures.later c.is_within.ensures.entries

bounded : (g : Over) (c : After-bound_state g) → IsWorked (g.G.Game.model c.args.setup.now.game) c.args.s (at_work (g.B.Bounds.view c.args.board.now) c.args.worker.now)
    (at_work (g.B.Bounds.view c.bound_state.new.board) c.bound_state.new.worker)
bounded g c = worked_after (worked_read (worked_none c.requires.here.kept) c.is_within.ensures.later c.is_within.ensures.entries) c.bound_state.ensures.worked

pub returns-then-is_within-clause-worked : goal.returns-then-is_within-clause-worked
returns-then-is_within-clause-worked g c = looked g (goal.at.returns-then-is_within-clause-worked g c).After-is_within

pub returns-then-is_within-clause-last : goal.returns-then-is_within-clause-last
returns-then-is_within-clause-last g c last enough goes_on =
    let fits : SFits w64 c.wanted_gap-goal.result = search rules in
    close_below (g.G.Game.model c.args.setup.now.game) c.total.result (g.B.Bounds.view c.is_within.new.board) c.args.s c.wanted_gap-goal.result
    (c.is_within.ensures.later.total ∙ sym c.total.ensures.total) (c.wanted_gap-goal.ensures.last last) (rw (to_z-of_z w64 c.wanted_gap-goal.result fits) at c.if-is_within.ensures.within)

pub returns-then-has_swept-clause-worked : goal.returns-then-has_swept-clause-worked
returns-then-has_swept-clause-worked g c = looked g (goal.at.returns-then-has_swept-clause-worked g c).After-is_within

pub returns-then-has_swept-clause-last : goal.returns-then-has_swept-clause-last
returns-then-has_swept-clause-last g c last enough =
    let m = g.G.Game.model c.args.setup.now.game in
    done_later m c.args.s c.is_within.ensures.later
    (key_done m (g.met.G.Game.lawful c.args.setup.now.game) c.args.s c.requires.here.reachable c.requires.swept (rw c.key.ensures at c.if-has_swept.ensures) last)

pub returns-then-not-wants_bounds-clause-worked : goal.returns-then-not-wants_bounds-clause-worked
returns-then-not-wants_bounds-clause-worked g c = looked g (goal.at.returns-then-not-wants_bounds-clause-worked g c).After-is_within

pub bound_state-requires-clause-here : goal.bound_state-requires-clause-here
bound_state-requires-clause-here g c = at_row_after c.requires.here (looked g (goal.at.bound_state-requires-clause-here g c).After-is_within)

pub returns-in_err-bound_state-clause-worked : goal.returns-in_err-bound_state-clause-worked
returns-in_err-bound_state-clause-worked g c = bounded g (goal.at.returns-in_err-bound_state-clause-worked g c).After-bound_state

pub gap_at-gap-requires : goal.gap_at-gap-requires
gap_at-gap-requires g c = record { here = node_of (at_row_after c.requires.here (bounded g (goal.at.gap_at-gap-requires g c).After-bound_state)) }

pub returns-clause-worked : goal.returns-clause-worked
returns-clause-worked g c = rw c.note_bounds.ensures
    (worked_read (bounded g (goal.at.returns-clause-worked g c).After-bound_state) c.gap_at-gap.ensures.later c.gap_at-gap.ensures.entries)

pub returns-in_err-note_bounds-clause-worked : goal.returns-in_err-note_bounds-clause-worked
returns-in_err-note_bounds-clause-worked g c = rw c.note_bounds.ensures
    (worked_read (bounded g (goal.at.returns-in_err-note_bounds-clause-worked g c).After-bound_state) c.gap_at-gap.ensures.later c.gap_at-gap.ensures.entries)

pub returns-clause-last : goal.returns-clause-last
returns-clause-last g c last enough goes_on =
    let m = g.G.Game.model c.args.setup.now.game in
    let v = g.B.Bounds.view c.gap_at-gap.new.board in
    let fits : SFits w64 c.wanted_gap-goal.result = search rules in
    close_below m c.total.result v c.args.s c.wanted_gap-goal.result
    (c.gap_at-gap.ensures.later.total ∙ c.bound_state.ensures.worked.board.later.total ∙ c.is_within.ensures.later.total ∙ sym c.total.ensures.total) (c.wanted_gap-goal.ensures.last last)
    (gap_within m (g.met.G.Game.lawful c.args.setup.now.game) c.args.s v c.gap_at-gap.result c.wanted_gap-goal.result c.gap_at-gap.ensures.enclosed c.gap_at-gap.ensures.gap fits enough)

pub returns-in_err-bound_state-clause-stopped : goal.returns-in_err-bound_state-clause-stopped
returns-in_err-bound_state-clause-stopped g c =
    let p = err_from_is_err_and c.from_residual.result c.from_residual.ensures.1 in
    rw (p.1, p.2) (stop_board _ c.args.s (at_work (g.B.Bounds.view c.bound_state.new.board) c.bound_state.new.worker) _
    c.in_err-bound_state.field-0.0 c.in_err-bound_state.was c.bound_state.ensures.full)

pub returns-in_err-note_bounds-clause-stopped : goal.returns-in_err-note_bounds-clause-stopped
returns-in_err-note_bounds-clause-stopped g c = let p = err_from_is_err_and c.from_residual-in_err-note_bounds.result c.from_residual-in_err-note_bounds.ensures.1 in rw (p.1, p.2) tt
