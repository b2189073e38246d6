use Rattle.std.proofs.Common.{rules, ◌≡◌, ℕ, ◌+◌, ◌<◌, Some, Err, length, w64, refl, sym, ap, ◌∙◌, arith, below_more}
use Rattle.std.proofs.lemmas.Int.{to_z-of_z}
use Rattle.std.proofs.lemmas.Result.{IfOk-weaker, IfErr-weaker, err_from_is_err_and}
use Rattle.std.proofs.lemmas.List.Elements.{All-get_or, All-contains}
use Rattle.restricted_game.proofs.ChildLemmas.{no_child_rows, child_rows_later}
use Rattle.oracle_search.specs.declared.ends.SearchEnd.{SearchEnd}
use Rattle.oracle_search.specs.declared.ends.SearchEnd.TheVariants.{Spent, Full}
use Rattle.oracle_search.specs.Finished.{IsBeyond, IsClose}
use Rattle.oracle_search.specs.Workers.{WorkerView, at_work}
use Rattle.oracle_search.specs.Searches.{IsBoardFull, IsWorked, IsDone, AreDone, growth_turns, TakesAtMost, HasVisitsBelow, IsPureTight}
use Rattle.oracle_search.proofs.+search.Given as given
use Rattle.oracle_search.proofs.+search.Goals as goal
use Rattle.oracle_search.proofs.BetterLemmas.{within_met, gap_closed, serial_closed}
use Rattle.oracle_search.proofs.GrowLemmas.{IsSearching, IsGrowing, searching_none, searching_read, searching_more, searching_stopped, child_done, child_stopped}
use Rattle.oracle_search.proofs.GrowLemmas.{early_beyond, early_ends, early_reached, growing_none, growing_stopped, growing_passed, growing_turn, growing_more, close_after}
use Rattle.oracle_search.proofs.KeyLemmas.{close_later, done_later, are_done_later, key_done, not_added}
use Rattle.oracle_search.proofs.RingLemmas.{pair_inside, ring_contained}
use Rattle.oracle_search.proofs.SweepLemmas.{bounded_early, bounded_grown, bounded_swept, bounded_spent, bounded_full, pure_full, run_out_later, run_out_grown, run_out_swept, stopped_unsettled}
use Rattle.oracle_search.proofs.TurnLemmas.{taken_by, taken_added}
use Rattle.oracle_search.proofs.WorkLemmas.{IsAfter, worked_none, worked_read, worked_after, worked_full, worked_wider, worked_added, worked_child, full_kept, full_child, stop_under, stop_more, stop_board, stop_step, drawn_after}
use Rattle.oracle_search.proofs.WorkLemmas.{node_of, at_row_after, at_children_after, at_child, pure_later, ahead_later, pure_within, pure_beyond}
use Rattle.oracle_search.proofs.+search.Goals.{children::search_child-After-search_row, children::search_child-In_ok-finished, children::search_draws-After-drawn-child, children::search_draws-In_err-row}
use Rattle.oracle_search.proofs.+search.Goals.{growth::grow-In_ok-search_children, growth::grow-After-take_turn, state::close_row-After-bound_state, state::close_row-After-ended_early}

-- ---- the search of a child
searched : (g : given.Over) (t : ℕ) (c : children::search_child-After-search_row g t) → IsWorked (g.G.Game.model c.args.setup.now.game) c.args.s
    (at_work (g.B.Bounds.view c.args.board.now) c.args.worker.now) (at_work (g.B.Bounds.view c.search_row.new.board) c.search_row.new.worker)
searched g t c = worked_after (worked_read (worked_none c.requires.here.kept) c.gap_at.ensures.later c.gap_at.ensures.entries) c.search_row.ensures.worked

-- a child that was finished
finished : (g : given.Over) (t : ℕ) (c : children::search_child-In_ok-finished g t) → let m = g.G.Game.model c.args.setup.now.game in
    IsClose m (g.B.Bounds.view c.search_row.new.board) c.args.s × TakesAtMost (growth_turns m) 1 (m.rank c.args.s) c.args.worker.now c.search_row.new.worker
finished g t c = child_done (g.G.Game.model c.args.setup.now.game) c.args.s (at_work (g.B.Bounds.view c.gap_at.new.board) c.args.worker.now)
    (at_work (g.B.Bounds.view c.search_row.new.board) c.search_row.new.worker) c.in_ok-end.end
    (rw c.in-Some.is at c.requires.here).has_row.goes_on (sym c.finished.ensures ∙ c.in_ok-finished.was) c.in_ok-end.ensures.ended.ends (c.in_ok-end.ensures.ended.turns c.requires.regret)

pub children::search_child-returns-in_default-clause-worked : goal.children::search_child-returns-in_default-clause-worked
children::search_child-returns-in_default-clause-worked g t c = worked_none c.requires.here.kept

pub children::search_child-returns-then-has-clause-worked : goal.children::search_child-returns-then-has-clause-worked
children::search_child-returns-then-has-clause-worked g t c = worked_none c.requires.here.kept

pub children::search_child-returns-then-has-clause-searched : goal.children::search_child-returns-then-has-clause-searched
children::search_child-returns-then-has-clause-searched g t c = (
  key_done (g.G.Game.model c.args.setup.now.game) (g.met.G.Game.lawful c.args.setup.now.game) c.args.s c.requires.here.reachable c.requires.here.kept.finished
      (rw c.key-key.ensures at c.if-has.ensures) refl,
  taken_by refl refl,
)

pub children::search_child-returns-then-gap_at-eq0-clause-worked : goal.children::search_child-returns-then-gap_at-eq0-clause-worked
children::search_child-returns-then-gap_at-eq0-clause-worked g t c = worked_read (worked_none c.requires.here.kept) c.gap_at.ensures.later c.gap_at.ensures.entries

pub children::search_child-search_row-requires : goal.children::search_child-search_row-requires
children::search_child-search_row-requires g t c =
    let here = at_row_after (rw c.in-Some.is at c.requires.here) (worked_read {limit = 0} (worked_none c.requires.here.kept) c.gap_at.ensures.later c.gap_at.ensures.entries) in
    search rules

pub children::search_child-add-requires : goal.children::search_child-add-requires
children::search_child-add-requires g t c has =
    not_added (g.G.Game.model c.args.setup.now.game) (g.met.G.Game.lawful c.args.setup.now.game) c.args.s c.requires.here.reachable c.search_row.ensures.worked.finished.added
    (rw c.key-key.ensures at c.if-has.ensures) (rw c.key-key.ensures at has)

pub children::search_child-returns-clause-worked : goal.children::search_child-returns-clause-worked
children::search_child-returns-clause-worked g t c =
    let k = goal.at.children::search_child-returns-clause-worked g t c in
    let game = g.met.G.Game.lawful c.args.setup.now.game in
    let here = rw c.in-Some.is at c.requires.here in
    let worked = searched g t k.After-search_row in
    worked_added game c.args.s here.reachable c.in-Some.row here.has_row.goes_on (worked.board.later.keys c.in-Some.row _ here.has_row.holds) (finished g t k.In_ok-finished).0
    (not_added _ game c.args.s here.reachable c.search_row.ensures.worked.finished.added (rw c.key-key.ensures at c.if-has.ensures)) worked (rw c.key-key.ensures at c.in_ok-add.ensures.ok)

pub children::search_child-returns-clause-searched : goal.children::search_child-returns-clause-searched
children::search_child-returns-clause-searched g t c =
    let k = finished g t (goal.at.children::search_child-returns-clause-searched g t c).In_ok-finished in
    (λ _. k.0, taken_added c.key-key.result c.in_ok-add.ensures.ok k.1)

pub children::search_child-returns-in_err-add-clause-worked : goal.children::search_child-returns-in_err-add-clause-worked
children::search_child-returns-in_err-add-clause-worked g t c =
    rw c.in_err-add.ensures.err (worked_wider (omega arith) (searched g t (goal.at.children::search_child-returns-in_err-add-clause-worked g t c).After-search_row))

pub children::search_child-returns-in_err-add-clause-searched : goal.children::search_child-returns-in_err-add-clause-searched
children::search_child-returns-in_err-add-clause-searched g t c =
    let p = err_from_is_err_and c.from_residual-in_err-add.result c.from_residual-in_err-add.ensures.1 in rw (p.1, p.2) tt

pub children::search_child-returns-in_err-finished-clause-worked : goal.children::search_child-returns-in_err-finished-clause-worked
children::search_child-returns-in_err-finished-clause-worked g t c =
    worked_wider (omega arith) (searched g t (goal.at.children::search_child-returns-in_err-finished-clause-worked g t c).After-search_row)

pub children::search_child-returns-in_err-finished-clause-searched : goal.children::search_child-returns-in_err-finished-clause-searched
children::search_child-returns-in_err-finished-clause-searched g t c =
    let stop = c.in_err-finished.field-0.0 in
    let stopped : c.from_residual-in_err-finished.result ≡ Err stop = search rules in
    rw stopped (child_stopped (g.G.Game.model c.args.setup.now.game) c.args.s (at_work (g.B.Bounds.view c.gap_at.new.board) c.args.worker.now)
    (at_work (g.B.Bounds.view c.search_row.new.board) c.search_row.new.worker)
    c.in_ok-end.end stop (sym c.finished.ensures ∙ c.in_err-finished.was) c.in_ok-end.ensures.ended.ends (c.in_ok-end.ensures.ended.turns c.requires.regret))

pub children::search_child-returns-in_err-end-clause-worked : goal.children::search_child-returns-in_err-end-clause-worked
children::search_child-returns-in_err-end-clause-worked g t c =
    worked_wider (omega arith) (searched g t (goal.at.children::search_child-returns-in_err-end-clause-worked g t c).After-search_row)

pub children::search_child-returns-in_err-end-clause-searched : goal.children::search_child-returns-in_err-end-clause-searched
children::search_child-returns-in_err-end-clause-searched g t c = let p = err_from_is_err_and c.from_residual.result c.from_residual.ensures.1 in rw (p.1, p.2) tt

-- ---- the draws of a pair of moves
-- the state after a draw, whose row was claimed
claimed : (g : given.Over) (t : ℕ) (c : children::search_draws-After-drawn-child g t) → let m = g.G.Game.model c.args.setup.now.game in
    let v = g.B.Bounds.view c.claim.new.board in IsAfter m c.args.s c.drawn-child.result
    × IsSearching m c.args.s c.claim.new.self (at_work (g.B.Bounds.view c.args.board.now) c.args.worker.now) (at_work v c.loop-draw.worker)
    ((d : ℕ) → d < c.loop-draw.draw → IsDone m v (m.drawn c.args.s c.args.moves.0 c.args.moves.1 d))
claimed g t c =
    let m = g.G.Game.model c.args.setup.now.game in
    let count = c.draws-draw-end.ensures in let inside = c.loop-draw-test.true in (
      rw c.drawn-child.ensures (drawn_after m (g.met.G.Game.lawful c.args.setup.now.game) c.args.s c.requires.here.reachable c.args.moves.0 c.args.moves.1 c.loop-draw.draw
          c.requires.one c.requires.two (omega arith)),
      searching_read c.loop-draw.invariant c.claim.ensures.board.later c.claim.ensures.board.entries c.claim.ensures.board.children
          (λ d l. done_later m _ c.claim.ensures.board.later (c.loop-draw.invariant.done d l)),
    )

-- a claim that was full
full : (g : given.Over) (t : ℕ) (c : children::search_draws-In_err-row g t) → IsBoardFull (g.G.Game.model c.args.setup.now.game) c.args.s (g.B.Bounds.view c.claim.new.board)
full g t c =
    let count = c.draws-draw-end.ensures in let inside = c.loop-draw-test.true in
    full_child (drawn_after (g.G.Game.model c.args.setup.now.game) (g.met.G.Game.lawful c.args.setup.now.game) c.args.s c.requires.here.reachable c.args.moves.0 c.args.moves.1
    c.loop-draw.draw c.requires.one c.requires.two (omega arith)) c.in_err-row.ensures.full

pub children::search_draws-loop-draw-init : goal.children::search_draws-loop-draw-init
children::search_draws-loop-draw-init g t c = searching_none c.requires.here.kept c.requires.here.children (λ d l. absurd (omega arith))

pub children::search_draws-search_child-requires : goal.children::search_draws-search_child-requires
children::search_draws-search_child-requires g t c =
    let k = claimed g t (goal.at.children::search_draws-search_child-requires g t c).After-drawn-child in
    let lower = k.0.lower in
    let here = at_child k.0 c.requires.here k.1.worked (rw (← c.drawn-child.ensures) at c.in_ok-row.ensures.row) in
    let regret = k.1.worked.linear ∙ c.requires.regret in
    search rules

pub children::search_draws-loop-draw-preserved : goal.children::search_draws-loop-draw-preserved
children::search_draws-loop-draw-preserved g t c =
    let m = g.G.Game.model c.args.setup.now.game in
    let k = claimed g t (goal.at.children::search_draws-loop-draw-preserved g t c).After-drawn-child in
    let lower = k.0.lower in
    let later = c.search_child.ensures.worked.board.later in
    let end = c.in_ok-search_child.ensures.searched in
    searching_more k.1 (worked_child k.0 c.search_child.ensures.worked) (omega arith) end.1 (child_rows_later m _ _ c.args.s _ later c.claim.ensures.board.children)
    (below_more _ c.loop-draw.draw (λ d l. done_later m _ later (k.1.done d l)) (rw c.drawn-child.ensures at end.0))

pub children::search_draws-returns-in_err-search_child-clause-worked : goal.children::search_draws-returns-in_err-search_child-clause-worked
children::search_draws-returns-in_err-search_child-clause-worked g t c =
    let k = claimed g t (goal.at.children::search_draws-returns-in_err-search_child-clause-worked g t c).After-drawn-child in
    worked_after k.1.worked (worked_child k.0 c.search_child.ensures.worked)

pub children::search_draws-returns-in_err-search_child-clause-children : goal.children::search_draws-returns-in_err-search_child-clause-children
children::search_draws-returns-in_err-search_child-clause-children g t c = child_rows_later _ _ _ _ _ c.search_child.ensures.worked.board.later c.claim.ensures.board.children

pub children::search_draws-returns-in_err-search_child-clause-searched : goal.children::search_draws-returns-in_err-search_child-clause-searched
children::search_draws-returns-in_err-search_child-clause-searched g t c =
    let k = claimed g t (goal.at.children::search_draws-returns-in_err-search_child-clause-searched g t c).After-drawn-child in
    let lower = k.0.lower in
    let stop = c.in_err-search_child.field-0.0 in
    let stopped : c.from_residual-in_err-search_child.result ≡ Err stop = search rules in
    rw stopped (stop_under k.0 (at_work (g.B.Bounds.view c.search_child.new.board) c.search_child.new.worker) stop
    (searching_stopped k.1 (worked_child k.0 c.search_child.ensures.worked) (omega arith)) c.in_err-search_child.ensures.searched)

pub children::search_draws-returns-in_err-row-clause-worked : goal.children::search_draws-returns-in_err-row-clause-worked
children::search_draws-returns-in_err-row-clause-worked g t c = worked_read c.loop-draw.invariant.worked c.claim.ensures.board.later c.claim.ensures.board.entries

pub children::search_draws-returns-in_err-row-clause-searched : goal.children::search_draws-returns-in_err-row-clause-searched
children::search_draws-returns-in_err-row-clause-searched g t c =
    let p = err_from_is_err_and c.from_residual.result c.from_residual.ensures.1 in
    rw (p.1, p.2) (full g t (goal.at.children::search_draws-returns-in_err-row-clause-searched g t c).In_err-row)

-- ---- the pairs of held moves
pub children::search_children-loop-step-init : goal.children::search_children-loop-step-init
children::search_children-loop-step-init g t c = searching_none c.requires.here.kept c.requires.here.children (λ step l. absurd (omega arith))

pub children::search_children-search_draws-requires : goal.children::search_children-search_draws-requires
children::search_children-search_draws-requires g t c =
    let rows = c.rows-rows.result.now in let cols = c.cols-cols.result.now in
    let m = g.G.Game.model c.args.setup.now.game in
    let below = c.loop-step-test.true in
    let inside = pair_inside (c.args.setup.now.worker + c.loop-step.step) (length rows) (length cols) (omega arith) in
    let one = rw c.requires.fits.rows at (All-get_or (λ (n : ℕ). n < c.args.held.now.most_rows) rows _ 0 inside.0 c.rows-rows.ensures.held.within) in
    let two = rw c.requires.fits.cols at (All-get_or (λ (n : ℕ). n < c.args.held.now.most_cols) cols _ 0 inside.1 c.cols-cols.ensures.held.within) in
    let here = at_children_after c.requires.here c.loop-step.invariant.worked c.loop-step.invariant.children in
    let regret = c.loop-step.invariant.worked.linear ∙ c.requires.regret in
    search rules

pub children::search_children-loop-step-preserved : goal.children::search_children-loop-step-preserved
children::search_children-loop-step-preserved g t c =
    let m = g.G.Game.model c.args.setup.now.game in
    let later = c.search_draws.ensures.worked.board.later in
    let end = c.in_ok-search_draws.ensures.searched in
    searching_more c.loop-step.invariant c.search_draws.ensures.worked (omega arith) end.1 c.search_draws.ensures.children
    (below_more _ c.loop-step.step (λ k l. are_done_later m c.args.s _ _ later (c.loop-step.invariant.done k l)) end.0)

pub children::search_children-returns-in_err-search_draws-clause-worked : goal.children::search_children-returns-in_err-search_draws-clause-worked
children::search_children-returns-in_err-search_draws-clause-worked g t c = worked_after c.loop-step.invariant.worked c.search_draws.ensures.worked

pub children::search_children-returns-in_err-search_draws-clause-searched : goal.children::search_children-returns-in_err-search_draws-clause-searched
children::search_children-returns-in_err-search_draws-clause-searched g t c =
    let stop = c.in_err-search_draws.field-0.0 in
    let stopped : c.from_residual.result ≡ Err stop = search rules in
    rw stopped (stop_more _ c.args.s (at_work (g.B.Bounds.view c.search_draws.new.board) c.search_draws.new.worker) stop
    (searching_stopped c.loop-step.invariant c.search_draws.ensures.worked (omega arith)) c.in_err-search_draws.ensures.searched)

pub children::search_children-returns-clause-searched : goal.children::search_children-returns-clause-searched
children::search_children-returns-clause-searched g t c =
    let inside = c.loop-step-test.false in (
      λ one two has_one has_two. ring_contained (AreDone (g.G.Game.model c.args.setup.now.game) (g.B.Bounds.view c.loop-step.board) c.args.s) c.args.setup.now.worker
          c.rows-rows.result.now c.cols-cols.result.now (λ step l. c.loop-step.invariant.done step (omega arith)) one two (rw (← c.rows-rows.ensures.rows) at has_one)
          (rw (← c.cols-cols.ensures.cols) at has_two),
      c.loop-step.invariant.turns,
    )

-- ---- a restricted game that grows
-- the states after held moves, all done
passed : (g : given.Over) (t : ℕ) (c : growth::grow-In_ok-search_children g t) → IsGrowing (g.G.Game.model c.args.setup.now.game) c.args.s c.search_children.new.children c.growth.growth.held
    (at_work (g.B.Bounds.view c.args.board.now) c.args.worker.now) (at_work (g.B.Bounds.view c.search_children.new.board) c.search_children.new.worker)
passed g t c = growing_passed c.requires.here.has_row.goes_on c.growth.invariant c.search_children.ensures.worked c.in_ok-search_children.ensures.searched.1
    c.search_children.ensures.children

-- a turn
turned : (g : given.Over) (t : ℕ) (c : growth::grow-After-take_turn g t) → IsWorked (g.G.Game.model c.args.setup.now.game) c.args.s
    (at_work (g.B.Bounds.view c.args.board.now) c.args.worker.now) (at_work (g.B.Bounds.view c.take_turn.new.board) c.take_turn.new.worker)
turned g t c = worked_after (worked_after c.growth.invariant.worked c.search_children.ensures.worked) c.take_turn.ensures.worked

pub growth::grow-returns-in_err-growth-clause-worked : goal.growth::grow-returns-in_err-growth-clause-worked
growth::grow-returns-in_err-growth-clause-worked g t c = worked_none c.requires.here.kept

pub growth::grow-returns-in_err-growth-clause-stopped : goal.growth::grow-returns-in_err-growth-clause-stopped
growth::grow-returns-in_err-growth-clause-stopped g t c = let p = err_from_is_err_and c.from_residual.result c.from_residual.ensures.1 in rw (p.1, p.2) tt

pub growth::grow-growth-init : goal.growth::grow-growth-init
growth::grow-growth-init g t c =
    growing_none c.requires.here.has_row.goes_on (g.met.G.Game.lawful c.args.setup.now.game) c.requires.here.kept c.in_ok-growth.ensures.held
    (no_child_rows _ _ c.args.s c.in_ok-growth.growth.children c.in_ok-growth.ensures.children)

pub growth::grow-take_turn-requires-clause-here : goal.growth::grow-take_turn-requires-clause-here
growth::grow-take_turn-requires-clause-here g t c = at_row_after c.requires.here (worked_after c.growth.invariant.worked c.search_children.ensures.worked)

pub growth::grow-is_within_told-requires : goal.growth::grow-is_within_told-requires
growth::grow-is_within_told-requires g t c =
    record { here = node_of (at_row_after c.requires.here (turned g t (goal.at.growth::grow-is_within_told-requires g t c).After-take_turn)) }

pub growth::grow-returns-in_err-search_children-clause-worked : goal.growth::grow-returns-in_err-search_children-clause-worked
growth::grow-returns-in_err-search_children-clause-worked g t c = worked_after c.growth.invariant.worked c.search_children.ensures.worked

pub growth::grow-returns-in_err-search_children-clause-stopped : goal.growth::grow-returns-in_err-search_children-clause-stopped
growth::grow-returns-in_err-search_children-clause-stopped g t c =
    let stop = c.in_err-search_children.field-0.0 in
    let stopped : c.from_residual-in_err-search_children.result ≡ Err stop = search rules in
    rw stopped (stop_more _ c.args.s (at_work (g.B.Bounds.view c.search_children.new.board) c.search_children.new.worker) stop
    (growing_stopped c.requires.here.has_row.goes_on c.growth.invariant c.search_children.ensures.worked) c.in_err-search_children.ensures.searched)

pub growth::grow-returns-then-is_within_told-clause-worked : goal.growth::grow-returns-then-is_within_told-clause-worked
growth::grow-returns-then-is_within_told-clause-worked g t c =
    worked_read (turned g t (goal.at.growth::grow-returns-then-is_within_told-clause-worked g t c).After-take_turn) c.is_within_told.ensures.later c.is_within_told.ensures.entries

pub growth::grow-returns-then-is_within_told-clause-ended : goal.growth::grow-returns-then-is_within_told-clause-ended
growth::grow-returns-then-is_within_told-clause-ended g t c = record {
  ends = λ _. rw (to_z-of_z w64 c.args.target c.ranges.target) at c.if-is_within_told.ensures.within;
  turns = growing_turn c.requires.here.has_row.goes_on (passed g t (goal.at.growth::grow-returns-then-is_within_told-clause-ended g t c).In_ok-search_children) c.in_ok-end.ensures.turn.turn
      (ap (λ (w : WorkerView). w.finished) c.take_turn.ensures.turn.same);
}

pub growth::grow-returns-in-Done-clause-worked : goal.growth::grow-returns-in-Done-clause-worked
growth::grow-returns-in-Done-clause-worked g t c =
    worked_read (turned g t (goal.at.growth::grow-returns-in-Done-clause-worked g t c).After-take_turn) c.is_within_told.ensures.later c.is_within_told.ensures.entries

pub growth::grow-returns-in-Done-clause-ended : goal.growth::grow-returns-in-Done-clause-ended
growth::grow-returns-in-Done-clause-ended g t c =
    let m = g.G.Game.model c.args.setup.now.game in
    let here = c.requires.here in
    let held = c.growth.growth.held in
    let holding = c.search_children.ensures.holding in
    let close = close_after m c.args.s here.has_row.goes_on (g.met.G.Game.lawful c.args.setup.now.game) here.reachable (g.B.Bounds.view c.search_children.new.board)
    (g.B.Bounds.view c.take_turn.new.board) held c.in-Done.lower c.in-Done.upper c.take_turn.ensures.worked.board.later.total
    (λ one has. rw c.growth.invariant.fits.rows at (All-contains (λ (n : ℕ). n < held.most_rows) held.rows one holding.rows.within has))
    (λ two has. rw c.growth.invariant.fits.cols at (All-contains (λ (n : ℕ). n < held.most_cols) held.cols two holding.cols.within has))
    c.in_ok-search_children.ensures.searched.0 (rw c.in-Done.is at c.in_ok-end.ensures.gap) in
    record {
      ends = (
        here.has_row.goes_on,
        rw (to_z-of_z w64 c.args.target c.ranges.target) at c.if-is_within_told.ensures.within,
        close_later m c.args.s c.is_within_told.ensures.later close,
      );
      turns = growing_turn here.has_row.goes_on (passed g t (goal.at.growth::grow-returns-in-Done-clause-ended g t c).In_ok-search_children) c.in_ok-end.ensures.turn.turn
          (ap (λ (w : WorkerView). w.finished) c.take_turn.ensures.turn.same);
    }

pub growth::grow-growth-preserved : goal.growth::grow-growth-preserved
growth::grow-growth-preserved g t c = growing_more c.requires.here.has_row.goes_on (passed g t (goal.at.growth::grow-growth-preserved g t c).In_ok-search_children) c.in_ok-end.end
    (worked_read c.take_turn.ensures.worked c.is_within_told.ensures.later c.is_within_told.ensures.entries) c.in_ok-end.ensures.turn.turn
    (ap (λ (w : WorkerView). w.finished) c.take_turn.ensures.turn.same) c.in_ok-end.ensures.held.held (g.met.G.Game.lawful c.args.setup.now.game) c.requires.here.reachable
    (rw c.in-Grown.is at c.in_ok-end.ensures.held.grown)
    (child_rows_later _ _ _ c.args.s _ c.is_within_told.ensures.later c.take_turn.ensures.children)

pub growth::grow-returns-in_err-end-clause-worked : goal.growth::grow-returns-in_err-end-clause-worked
growth::grow-returns-in_err-end-clause-worked g t c = turned g t (goal.at.growth::grow-returns-in_err-end-clause-worked g t c).After-take_turn

pub growth::grow-returns-in_err-end-clause-stopped : goal.growth::grow-returns-in_err-end-clause-stopped
growth::grow-returns-in_err-end-clause-stopped g t c =
    let goes_on = c.requires.here.has_row.goes_on in
    let k = passed g t (goal.at.growth::grow-returns-in_err-end-clause-stopped g t c).In_ok-search_children in
    let p = err_from_is_err_and c.from_residual-in_err-end.result c.from_residual-in_err-end.ensures.1 in
    rw (p.1, p.2) (stop_step _ c.args.s (at_work (g.B.Bounds.view c.take_turn.new.board) c.take_turn.new.worker) c.in_err-end.field-0.0 c.in_err-end.was c.take_turn.ensures.full
    (λ is. let spent = c.take_turn.ensures.turn.spent is in
    (spent.0, growing_stopped goes_on k c.take_turn.ensures.worked (taken_by spent.1 (ap (λ (w : WorkerView). w.finished.keys) c.take_turn.ensures.turn.same)))))

-- ---- the search of a state
-- what was kept up to the serial searches, and to the reading after them
bounded : (g : given.Over) (t : ℕ) (c : state::close_row-After-bound_state g t) → IsWorked (g.G.Game.model c.args.setup.now.game) c.args.s
    (at_work (g.B.Bounds.view c.args.board.now) c.args.worker.now) (at_work (g.B.Bounds.view c.bound_state.new.board) c.bound_state.new.worker)
bounded g t c = worked_after (worked_read (worked_none c.requires.here.kept) c.gap_at.ensures.later c.gap_at.ensures.entries) c.bound_state.ensures.worked

told : (g : given.Over) (t : ℕ) (c : state::close_row-After-ended_early g t) → IsWorked (g.G.Game.model c.args.setup.now.game) c.args.s
    (at_work (g.B.Bounds.view c.args.board.now) c.args.worker.now) (at_work (g.B.Bounds.view c.ended_early.new.board) c.bound_state.new.worker)
told g t c = worked_read (worked_after (worked_read (worked_none c.requires.here.kept) c.gap_at.ensures.later c.gap_at.ensures.entries) c.bound_state.ensures.worked)
    c.ended_early.ensures.later c.ended_early.ensures.entries

-- the bounds are as tight as pure plans make them
tight : (g : given.Over) (t : ℕ) (c : state::close_row-After-ended_early g t) → let m = g.G.Game.model c.args.setup.now.game in
    HasVisitsBelow m c.args.s c.args.worker.now.turns c.args.worker.now.visits → IsPureTight m c.args.s (g.B.Bounds.view c.ended_early.new.board)
tight g t c visits = pure_later (g.G.Game.model c.args.setup.now.game) c.args.s c.ended_early.ensures.later (c.in_ok-is_ahead.ensures.tight visits)

-- the gap is above the target
beyond : (g : given.Over) (t : ℕ) (c : state::close_row-After-ended_early g t) → ((end : SearchEnd) → c.ended_early.result ≡ Some end → ⊥)
    → IsBeyond (g.G.Game.model c.args.setup.now.game) (g.B.Bounds.view c.ended_early.new.board) c.args.s c.args.target
beyond g t c none =
    early_beyond (g.G.Game.model c.args.setup.now.game) c.args.s c.requires.here.has_row.goes_on (g.B.Bounds.view c.ended_early.new.board)
    c.args.target c.ended_early.result (rw (to_z-of_z w64 c.args.target c.ranges.target) at c.ended_early.ensures.end) none

pub state::close_row-returns-then-gap_at-eq0-clause-worked : goal.state::close_row-returns-then-gap_at-eq0-clause-worked
state::close_row-returns-then-gap_at-eq0-clause-worked g t c = worked_read (worked_none c.requires.here.kept) c.gap_at.ensures.later c.gap_at.ensures.entries

pub state::close_row-returns-then-gap_at-eq0-clause-ended : goal.state::close_row-returns-then-gap_at-eq0-clause-ended
state::close_row-returns-then-gap_at-eq0-clause-ended g t c =
    let m = g.G.Game.model c.args.setup.now.game in
    let met = gap_closed m (g.met.G.Game.lawful c.args.setup.now.game) c.args.s (g.B.Bounds.view c.gap_at.new.board) c.gap_at.result c.gap_at.ensures.enclosed c.gap_at.ensures.gap
    c.if-gap_at-eq0.true in
    bounded_early (λ _. within_met _ _ _ met c.requires.target) refl refl

pub state::close_row-returns-then-gap_at-eq0-clause-pure : goal.state::close_row-returns-then-gap_at-eq0-clause-pure
state::close_row-returns-then-gap_at-eq0-clause-pure g t c = record {
  tight = λ visits full goes_on. serial_closed (g.G.Game.model c.args.setup.now.game) (g.met.G.Game.lawful c.args.setup.now.game) c.args.s (g.B.Bounds.view c.gap_at.new.board)
      c.gap_at.result c.requires.here.reachable c.gap_at.ensures.enclosed c.gap_at.ensures.gap c.if-gap_at-eq0.true;
  at_once = λ visits full near. (refl, refl);
}

pub state::close_row-bound_state-requires-clause-here : goal.state::close_row-bound_state-requires-clause-here
state::close_row-bound_state-requires-clause-here g t c =
    at_row_after c.requires.here (worked_read {limit = 0} (worked_none c.requires.here.kept) c.gap_at.ensures.later c.gap_at.ensures.entries)

pub state::close_row-ended_early-requires : goal.state::close_row-ended_early-requires
state::close_row-ended_early-requires g t c =
    record { here = node_of (at_row_after c.requires.here (bounded g t (goal.at.state::close_row-ended_early-requires g t c).After-bound_state)) }

pub state::close_row-returns-in-Some-clause-worked : goal.state::close_row-returns-in-Some-clause-worked
state::close_row-returns-in-Some-clause-worked g t c = told g t (goal.at.state::close_row-returns-in-Some-clause-worked g t c).After-ended_early

pub state::close_row-returns-in-Some-clause-ended : goal.state::close_row-returns-in-Some-clause-ended
state::close_row-returns-in-Some-clause-ended g t c =
    let same = c.bound_state.ensures.same in
    bounded_early (early_ends (g.G.Game.model c.args.setup.now.game) c.args.s c.requires.here.has_row.goes_on
    (at_work (g.B.Bounds.view c.ended_early.new.board) c.bound_state.new.worker) c.args.target c.in-Some.end
    (rw (to_z-of_z w64 c.args.target c.ranges.target, c.in-Some.is) at c.ended_early.ensures.end))
    (ap (λ (w : WorkerView). w.turns.spent) same) (ap (λ (w : WorkerView). w.finished.keys) same)

pub state::close_row-returns-in-Some-clause-pure : goal.state::close_row-returns-in-Some-clause-pure
state::close_row-returns-in-Some-clause-pure g t c =
    let m = g.G.Game.model c.args.setup.now.game in
    let v = g.B.Bounds.view c.ended_early.new.board in
    let so = tight g t (goal.at.state::close_row-returns-in-Some-clause-pure g t c).After-ended_early in
    record {
      tight = λ visits full goes_on. so visits;
      at_once = λ visits full near. (
        early_reached m c.args.s c.requires.here.has_row.goes_on v c.args.target c.in-Some.end (pure_within m c.args.s v c.args.target (so visits) near)
            (rw (to_z-of_z w64 c.args.target c.ranges.target, c.in-Some.is) at c.ended_early.ensures.end),
        ap (λ (x : WorkerView). x.turns) c.bound_state.ensures.same,
      );
    }

pub state::close_row-returns-in-Some-clause-left : goal.state::close_row-returns-in-Some-clause-left
state::close_row-returns-in-Some-clause-left g t c settled same =
    let why = c.may_leave-is_left.ensures (c.ended_early.ensures.leaves (c.in-Some.is ∙ ap Some settled)) in
    record {
      allowed = why.0;
      turn = rw (ap (λ (x : WorkerView). x.turns) c.bound_state.ensures.same) at why.2;
      not_full = sym (ap (λ (x : WorkerView). x.finished.was_full) c.bound_state.ensures.same) ∙ why.3;
      ahead = ahead_later (g.G.Game.model c.args.setup.now.game) c.args.s c.ended_early.ensures.later (c.in_ok-is_ahead.ensures.ahead why.1);
    }

pub state::close_row-make_sweeps-requires-clause-here : goal.state::close_row-make_sweeps-requires-clause-here
state::close_row-make_sweeps-requires-clause-here g t c = at_row_after c.requires.here (told g t (goal.at.state::close_row-make_sweeps-requires-clause-here g t c).After-ended_early)

pub state::close_row-grow-requires : goal.state::close_row-grow-requires
state::close_row-grow-requires g t c =
    let here = at_row_after c.requires.here (told g t (goal.at.state::close_row-grow-requires g t c).After-ended_early) in
    let regret = sym c.is_linear.ensures ∙ c.if-is_linear.false in
    search rules

pub state::close_row-returns-then-is_linear-clause-worked : goal.state::close_row-returns-then-is_linear-clause-worked
state::close_row-returns-then-is_linear-clause-worked g t c =
    worked_after (told g t (goal.at.state::close_row-returns-then-is_linear-clause-worked g t c).After-ended_early) c.make_sweeps.ensures.worked

pub state::close_row-returns-then-is_linear-clause-ended : goal.state::close_row-returns-then-is_linear-clause-ended
state::close_row-returns-then-is_linear-clause-ended g t c =
    let same = c.bound_state.ensures.same in
    IfOk-weaker c.make_sweeps.result _ _
    (λ end. bounded_swept (ap (λ (w : WorkerView). w.turns.spent) same) (sym (ap (λ (w : WorkerView). w.linear) same) ∙ sym c.is_linear.ensures ∙ c.if-is_linear.true))
    (rw (to_z-of_z w64 c.args.target c.ranges.target) at c.make_sweeps.ensures.ended)

pub state::close_row-returns-then-is_linear-clause-pure : goal.state::close_row-returns-then-is_linear-clause-pure
state::close_row-returns-then-is_linear-clause-pure g t c =
    IfOk-weaker c.make_sweeps.result _ _ (λ end _. pure_beyond (g.B.Bounds.view c.ended_early.new.board) c.make_sweeps.ensures.worked.board.later
    (beyond g t (goal.at.state::close_row-returns-then-is_linear-clause-pure g t c).After-ended_early c.in_default.not-Some)
    (tight g t (goal.at.state::close_row-returns-then-is_linear-clause-pure g t c).After-ended_early)) c.make_sweeps.ensures.ended

pub state::close_row-returns-then-is_linear-clause-stopped : goal.state::close_row-returns-then-is_linear-clause-stopped
state::close_row-returns-then-is_linear-clause-stopped g t c =
    let same = c.bound_state.ensures.same in
    let linear = sym (ap (λ (w : WorkerView). w.linear) same) ∙ sym c.is_linear.ensures ∙ c.if-is_linear.true in
    let k = (goal.at.state::close_row-returns-then-is_linear-clause-stopped g t c).After-ended_early in
    IfErr-weaker c.make_sweeps.result _ _ (λ stop. stop_more _ c.args.s (at_work (g.B.Bounds.view c.make_sweeps.new.board) c.make_sweeps.new.worker) stop
    (run_out_swept (at_work (g.B.Bounds.view c.ended_early.new.board) c.bound_state.new.worker) (ap (λ (w : WorkerView). w.turns.spent) same) linear
    (λ end. pure_beyond (g.B.Bounds.view c.ended_early.new.board) c.make_sweeps.ensures.worked.board.later (beyond g t k c.in_default.not-Some) (tight g t k))))
    c.make_sweeps.ensures.stopped

pub state::close_row-returns-else-is_linear-clause-worked : goal.state::close_row-returns-else-is_linear-clause-worked
state::close_row-returns-else-is_linear-clause-worked g t c =
    worked_after (told g t (goal.at.state::close_row-returns-else-is_linear-clause-worked g t c).After-ended_early) c.grow.ensures.worked

pub state::close_row-returns-else-is_linear-clause-ended : goal.state::close_row-returns-else-is_linear-clause-ended
state::close_row-returns-else-is_linear-clause-ended g t c =
    let same = c.bound_state.ensures.same in
    IfOk-weaker c.grow.result _ _ (λ end. bounded_grown (ap (λ (w : WorkerView). w.turns.spent) same) (ap (λ (w : WorkerView). w.finished.keys) same)
    (sym (ap (λ (w : WorkerView). w.linear) same) ∙ sym c.is_linear.ensures ∙ c.if-is_linear.false)) (rw (to_z-of_z w64 c.args.target c.ranges.target) at c.grow.ensures.ended)

pub state::close_row-returns-else-is_linear-clause-pure : goal.state::close_row-returns-else-is_linear-clause-pure
state::close_row-returns-else-is_linear-clause-pure g t c =
    IfOk-weaker c.grow.result _ _ (λ end _. pure_beyond (g.B.Bounds.view c.ended_early.new.board) c.grow.ensures.worked.board.later
    (beyond g t (goal.at.state::close_row-returns-else-is_linear-clause-pure g t c).After-ended_early c.in_default.not-Some)
    (tight g t (goal.at.state::close_row-returns-else-is_linear-clause-pure g t c).After-ended_early)) c.grow.ensures.ended

pub state::close_row-returns-else-is_linear-clause-stopped : goal.state::close_row-returns-else-is_linear-clause-stopped
state::close_row-returns-else-is_linear-clause-stopped g t c =
    let same = c.bound_state.ensures.same in
    let regret = sym (ap (λ (w : WorkerView). w.linear) same) ∙ sym c.is_linear.ensures ∙ c.if-is_linear.false in
    let k = (goal.at.state::close_row-returns-else-is_linear-clause-stopped g t c).After-ended_early in
    IfErr-weaker c.grow.result _ _ (λ stop. stop_more _ c.args.s (at_work (g.B.Bounds.view c.grow.new.board) c.grow.new.worker) stop
    (run_out_grown (at_work (g.B.Bounds.view c.ended_early.new.board) c.bound_state.new.worker) (ap (λ (w : WorkerView). w.turns.spent) same) (ap (λ (w : WorkerView). w.finished.keys) same) regret
    (λ end. pure_beyond (g.B.Bounds.view c.ended_early.new.board) c.grow.ensures.worked.board.later (beyond g t k c.in_default.not-Some) (tight g t k))))
    c.grow.ensures.stopped

pub state::close_row-returns-in_err-is_ahead-clause-worked : goal.state::close_row-returns-in_err-is_ahead-clause-worked
state::close_row-returns-in_err-is_ahead-clause-worked g t c = bounded g t (goal.at.state::close_row-returns-in_err-is_ahead-clause-worked g t c).After-bound_state

pub state::close_row-returns-in_err-is_ahead-clause-stopped : goal.state::close_row-returns-in_err-is_ahead-clause-stopped
state::close_row-returns-in_err-is_ahead-clause-stopped g t c =
    let p = err_from_is_err_and c.from_residual.result c.from_residual.ensures.1 in
    rw (p.1, p.2) (stop_board _ c.args.s (at_work (g.B.Bounds.view c.bound_state.new.board) c.bound_state.new.worker) _ c.in_err-is_ahead.field-0.0 c.in_err-is_ahead.was c.bound_state.ensures.full)

-- ---- a search that may stop
pub state::search_row-returns-in-Ok-clause-ended : goal.state::search_row-returns-in-Ok-clause-ended
state::search_row-returns-in-Ok-clause-ended g t c = rw (to_z-of_z w64 c.args.target c.ranges.target) at c.in-Ok.ensures.ended

pub state::search_row-returns-in-Ok-clause-pure : goal.state::search_row-returns-in-Ok-clause-pure
state::search_row-returns-in-Ok-clause-pure g t c = rw (to_z-of_z w64 c.args.target c.ranges.target) at c.in-Ok.ensures.pure

pub state::search_row-stopped-requires-clause-here : goal.state::search_row-stopped-requires-clause-here
state::search_row-stopped-requires-clause-here g t c = node_of (at_row_after c.requires.here c.close_row.ensures.worked)

pub state::search_row-returns-in-Err-Spent-clause-worked : goal.state::search_row-returns-in-Err-Spent-clause-worked
state::search_row-returns-in-Err-Spent-clause-worked g t c = worked_read c.close_row.ensures.worked c.stopped.ensures.later c.stopped.ensures.entries

pub state::search_row-returns-in-Err-Spent-clause-ended : goal.state::search_row-returns-in-Err-Spent-clause-ended
state::search_row-returns-in-Err-Spent-clause-ended g t c =
    let why = rw (c.in-Err-Spent.field-0-is, to_z-of_z w64 c.args.target c.ranges.target) at c.in-Err-Spent.ensures.stopped in
    bounded_spent c.stopped.result c.requires.here.has_row.goes_on why.0 (run_out_later c.stopped.ensures.later why.1)
    (rw (to_z-of_z w64 c.args.target c.ranges.target) at c.stopped.ensures.end)

pub state::search_row-returns-in-Err-Spent-clause-pure : goal.state::search_row-returns-in-Err-Spent-clause-pure
state::search_row-returns-in-Err-Spent-clause-pure g t c =
    let why = rw (c.in-Err-Spent.field-0-is, to_z-of_z w64 c.args.target c.ranges.target) at c.in-Err-Spent.ensures.stopped in
    (run_out_later c.stopped.ensures.later why.1).pure c.stopped.result

pub state::search_row-returns-in-Err-Spent-clause-left : goal.state::search_row-returns-in-Err-Spent-clause-left
state::search_row-returns-in-Err-Spent-clause-left g t c is =
    absurd (stopped_unsettled (g.G.Game.model c.args.setup.now.game) (g.B.Bounds.view c.stopped.new.board) c.args.s c.args.target Spent c.stopped.result (λ wrong. absurd (cc))
    (rw (to_z-of_z w64 c.args.target c.ranges.target) at c.stopped.ensures.end) is)

pub state::search_row-stopped-requires-in-Err-Full-clause-here : goal.state::search_row-stopped-requires-in-Err-Full-clause-here
state::search_row-stopped-requires-in-Err-Full-clause-here g t c = node_of (at_row_after c.requires.here c.close_row.ensures.worked)

pub state::search_row-returns-in-Err-Full-clause-worked : goal.state::search_row-returns-in-Err-Full-clause-worked
state::search_row-returns-in-Err-Full-clause-worked g t c =
    worked_full c.close_row.ensures.worked c.stopped-in-Err-Full.ensures.later c.stopped-in-Err-Full.ensures.entries c.note_full.ensures
    (full_kept _ c.args.s c.stopped-in-Err-Full.ensures.later (rw c.in-Err-Full.field-0-is at c.in-Err-Full.ensures.stopped))

pub state::search_row-returns-in-Err-Full-clause-ended : goal.state::search_row-returns-in-Err-Full-clause-ended
state::search_row-returns-in-Err-Full-clause-ended g t c =
    bounded_full (ap (λ (w : WorkerView). w.finished.was_full) c.note_full.ensures) c.stopped-in-Err-Full.result
    (full_kept _ c.args.s c.stopped-in-Err-Full.ensures.later (rw c.in-Err-Full.field-0-is at c.in-Err-Full.ensures.stopped))
    (rw (to_z-of_z w64 c.args.target c.ranges.target) at c.stopped-in-Err-Full.ensures.end)

pub state::search_row-returns-in-Err-Full-clause-pure : goal.state::search_row-returns-in-Err-Full-clause-pure
state::search_row-returns-in-Err-Full-clause-pure g t c = pure_full (ap (λ (w : WorkerView). w.finished.was_full) c.note_full.ensures)

pub state::search_row-returns-in-Err-Full-clause-left : goal.state::search_row-returns-in-Err-Full-clause-left
state::search_row-returns-in-Err-Full-clause-left g t c is =
    absurd (stopped_unsettled (g.G.Game.model c.args.setup.now.game) (g.B.Bounds.view c.stopped-in-Err-Full.new.board) c.args.s c.args.target Full c.stopped-in-Err-Full.result (λ wrong. absurd (cc))
    (rw (to_z-of_z w64 c.args.target c.ranges.target) at c.stopped-in-Err-Full.ensures.end) is)

pub state::close_row-returns-else-is_linear-clause-left : goal.state::close_row-returns-else-is_linear-clause-left
state::close_row-returns-else-is_linear-clause-left g t c =
    let kept = ap (λ (w : WorkerView). w.turns.spent) c.bound_state.ensures.same in
    IfOk-weaker c.grow.result _ _ (λ end turned settled same. let more = turned settled in absurd (omega arith)) c.grow.ensures.turned
