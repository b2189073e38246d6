use Rattle.std.proofs.Common.{rules, ◌≡◌, ℕ, ◌*◌, ◌%◌, ◌<◌, Err, Contains, ap, arith, below_more}
use Rattle.std.proofs.lemmas.Result.{err_from_is_err_and}
use Rattle.restricted_game.proofs.ChildLemmas.{child_rows_later}
use Rattle.oracle_search.specs.Workers.{WorkerView, at_work}
use Rattle.oracle_search.specs.Searches.{IsBoardFull, AreDone}
use Rattle.oracle_search.specs.Sweeps.{HasSwept, IsSweepDone}
use Rattle.oracle_search.proofs.KeyLemmas.{done_later, are_done_later, not_added}
use Rattle.oracle_search.proofs.RingLemmas.{ring_all}
use Rattle.oracle_search.proofs.SweepLemmas.{IsSweeping, swept_by, swept_none, swept_after, swept_wider, swept_read, swept_child, one_none, one_after, ended_after}
use Rattle.oracle_search.proofs.SweepLemmas.{sweeping_none, sweeping_read, sweeping_more}
use Rattle.oracle_search.proofs.WorkLemmas.{IsAfter, drawn_after, at_row_after, at_child, full_child, stop_under, stop_more}
use Rattle.oracle_search.proofs.sweeps.+sweep.Given as given
use Rattle.oracle_search.proofs.sweeps.+sweep.Goals as goal
use Rattle.oracle_search.proofs.sweeps.+sweep.Goals.{sweep_child-After-is_enough, sweep_draws-After-drawn-child, sweep_draws-In_err-row}

-- ---- a state
-- a state that was looked at
looked : (g : given.Over) (t : ℕ) (c : sweep_child-After-is_enough g t) → let m = g.G.Game.model c.args.setup.now.game in
    HasSwept m c.args.sweep.now.is_last c.args.s (m.rank c.args.s) (at_work (g.B.Bounds.view c.args.board.now) c.args.worker.now)
    (at_work (g.B.Bounds.view c.is_enough.new.board) c.is_enough.new.worker)
looked g t c = swept_by (swept_none c.requires.here.kept c.requires.swept) c.is_enough.ensures.worked (ap (λ (w : WorkerView). w.swept) c.is_enough.ensures.same)

pub sweep_child-returns-in_default-clause-swept : goal.sweep_child-returns-in_default-clause-swept
sweep_child-returns-in_default-clause-swept g t c = swept_none c.requires.here.kept c.requires.swept

pub sweep_child-returns-then-branch-clause-swept : goal.sweep_child-returns-then-branch-clause-swept
sweep_child-returns-then-branch-clause-swept g t c = swept_wider (omega arith) (looked g t (goal.at.sweep_child-returns-then-branch-clause-swept g t c).After-is_enough)

pub sweep_child-sweep_state-requires : goal.sweep_child-sweep_state-requires
sweep_child-sweep_state-requires g t c =
    let here = at_row_after (rw c.in-Some.is at c.requires.here) c.is_enough.ensures.worked in
    let swept = (looked g t (goal.at.sweep_child-sweep_state-requires g t c).After-is_enough).kept in
    let unmet : Contains c.is_enough.new.worker.swept ((g.G.Game.model c.args.setup.now.game).key c.args.s) → ⊥ =
    rw (ap (λ (w : WorkerView). w.swept) c.is_enough.ensures.same) (c.in_ok-is_enough.ensures.unmet c.if-branch.false) in
    search rules

pub sweep_child-returns-clause-swept : goal.sweep_child-returns-clause-swept
sweep_child-returns-clause-swept g t c =
    swept_after (swept_wider (omega arith) (looked g t (goal.at.sweep_child-returns-clause-swept g t c).After-is_enough)) c.sweep_state.ensures.swept

pub sweep_child-returns-clause-ended : goal.sweep_child-returns-clause-ended
sweep_child-returns-clause-ended g t c =
    let none = one_none (ap (λ (w : WorkerView). w.turns.spent) c.is_enough.ensures.same) (ap (λ (w : WorkerView). w.swept) c.is_enough.ensures.same) in
    ended_after c.sweep_state.ensures.swept.worked _ none c.sweep_state.result c.sweep_state.ensures.ended

pub sweep_child-returns-in_err-is_enough-clause-swept : goal.sweep_child-returns-in_err-is_enough-clause-swept
sweep_child-returns-in_err-is_enough-clause-swept g t c =
    swept_wider (omega arith) (looked g t (goal.at.sweep_child-returns-in_err-is_enough-clause-swept g t c).After-is_enough)

pub sweep_child-returns-in_err-is_enough-clause-ended : goal.sweep_child-returns-in_err-is_enough-clause-ended
sweep_child-returns-in_err-is_enough-clause-ended g t c =
    let stopped : c.from_residual.result ≡ Err c.in_err-is_enough.field-0.0 = search rules in rw stopped c.in_err-is_enough.ensures.stopped

-- ---- the draws of a pair of moves
-- the state after a draw, whose row was claimed
claimed : (g : given.Over) (t : ℕ) (c : sweep_draws-After-drawn-child g t) → let m = g.G.Game.model c.args.setup.now.game in
    let v = g.B.Bounds.view c.claim.new.board in IsAfter m c.args.s c.drawn-child.result
    × IsSweeping m c.args.sweep.now.is_last c.args.s c.claim.new.self (at_work (g.B.Bounds.view c.args.board.now) c.args.worker.now) (at_work v c.loop-draw.worker)
    ((d : ℕ) → d < c.loop-draw.draw → IsSweepDone m c.args.sweep.now.is_last v (m.drawn c.args.s c.args.moves.0 c.args.moves.1 d))
claimed g t c =
    let m = g.G.Game.model c.args.setup.now.game in
    let count = c.draws-draw-end.ensures in let inside = c.loop-draw-test.true in (
      rw c.drawn-child.ensures (drawn_after m (g.met.G.Game.lawful c.args.setup.now.game) c.args.s c.requires.here.reachable c.args.moves.0 c.args.moves.1 c.loop-draw.draw
          c.requires.one c.requires.two (omega arith)),
      sweeping_read c.loop-draw.invariant c.claim.ensures.board.later c.claim.ensures.board.entries c.claim.ensures.board.children
          (λ d l last. done_later m _ c.claim.ensures.board.later (c.loop-draw.invariant.done d l last)),
    )

-- a claim that was full
full : (g : given.Over) (t : ℕ) (c : sweep_draws-In_err-row g t) → IsBoardFull (g.G.Game.model c.args.setup.now.game) c.args.s (g.B.Bounds.view c.claim.new.board)
full g t c =
    let count = c.draws-draw-end.ensures in let inside = c.loop-draw-test.true in
    full_child (drawn_after (g.G.Game.model c.args.setup.now.game) (g.met.G.Game.lawful c.args.setup.now.game) c.args.s c.requires.here.reachable c.args.moves.0 c.args.moves.1
    c.loop-draw.draw c.requires.one c.requires.two (omega arith)) c.in_err-row.ensures.full

pub sweep_draws-loop-draw-init : goal.sweep_draws-loop-draw-init
sweep_draws-loop-draw-init g t c = sweeping_none c.requires.here.kept c.requires.swept c.requires.here.children (λ d l. absurd (omega arith))

pub sweep_draws-sweep_child-requires : goal.sweep_draws-sweep_child-requires
sweep_draws-sweep_child-requires g t c =
    let k = claimed g t (goal.at.sweep_draws-sweep_child-requires g t c).After-drawn-child in
    let lower = k.0.lower in
    let here = at_child k.0 c.requires.here k.1.swept.worked (rw (← c.drawn-child.ensures) at c.in_ok-row.ensures.row) in
    let swept = k.1.swept.kept in
    search rules

pub sweep_draws-loop-draw-preserved : goal.sweep_draws-loop-draw-preserved
sweep_draws-loop-draw-preserved g t c =
    let m = g.G.Game.model c.args.setup.now.game in
    let k = claimed g t (goal.at.sweep_draws-loop-draw-preserved g t c).After-drawn-child in
    let later = c.sweep_child.ensures.swept.worked.board.later in
    let end = c.in_ok-sweep_child.ensures.ended in
    sweeping_more k.1 (swept_child k.0 c.sweep_child.ensures.swept) end.1 (child_rows_later m _ _ c.args.s _ later c.claim.ensures.board.children)
    (below_more _ c.loop-draw.draw (λ d l last. done_later m _ later (k.1.done d l last)) (rw c.drawn-child.ensures at end.0))

pub sweep_draws-returns-in_err-sweep_child-clause-swept : goal.sweep_draws-returns-in_err-sweep_child-clause-swept
sweep_draws-returns-in_err-sweep_child-clause-swept g t c =
    let k = claimed g t (goal.at.sweep_draws-returns-in_err-sweep_child-clause-swept g t c).After-drawn-child in
    swept_after k.1.swept (swept_child k.0 c.sweep_child.ensures.swept)

pub sweep_draws-returns-in_err-sweep_child-clause-children : goal.sweep_draws-returns-in_err-sweep_child-clause-children
sweep_draws-returns-in_err-sweep_child-clause-children g t c = child_rows_later _ _ _ _ _ c.sweep_child.ensures.swept.worked.board.later c.claim.ensures.board.children

pub sweep_draws-returns-in_err-sweep_child-clause-ended : goal.sweep_draws-returns-in_err-sweep_child-clause-ended
sweep_draws-returns-in_err-sweep_child-clause-ended g t c =
    let k = claimed g t (goal.at.sweep_draws-returns-in_err-sweep_child-clause-ended g t c).After-drawn-child in
    let stop = c.in_err-sweep_child.field-0.0 in
    let stopped : c.from_residual-in_err-sweep_child.result ≡ Err stop = search rules in
    rw stopped (stop_under k.0 (at_work (g.B.Bounds.view c.sweep_child.new.board) c.sweep_child.new.worker) stop (one_after c.sweep_child.ensures.swept.worked k.1.turns)
    c.in_err-sweep_child.ensures.ended)

pub sweep_draws-returns-in_err-row-clause-swept : goal.sweep_draws-returns-in_err-row-clause-swept
sweep_draws-returns-in_err-row-clause-swept g t c = swept_read c.loop-draw.invariant.swept c.claim.ensures.board.later c.claim.ensures.board.entries

pub sweep_draws-returns-in_err-row-clause-ended : goal.sweep_draws-returns-in_err-row-clause-ended
sweep_draws-returns-in_err-row-clause-ended g t c =
    let p = err_from_is_err_and c.from_residual.result c.from_residual.ensures.1 in
    rw (p.1, p.2) (full g t (goal.at.sweep_draws-returns-in_err-row-clause-ended g t c).In_err-row)

-- ---- the pairs of moves
pub sweep_children-loop-step-init : goal.sweep_children-loop-step-init
sweep_children-loop-step-init g t c = sweeping_none c.requires.here.kept c.requires.swept c.requires.here.children (λ last step l. absurd (omega arith))

pub sweep_children-loop-step-preserved : goal.sweep_children-loop-step-preserved
sweep_children-loop-step-preserved g t c =
    let m = g.G.Game.model c.args.setup.now.game in
    let later = c.sweep_draws.ensures.swept.worked.board.later in
    let end = c.in_ok-sweep_draws.ensures.ended in
    sweeping_more c.loop-step.invariant c.sweep_draws.ensures.swept end.1 c.sweep_draws.ensures.children
    (λ last. below_more _ c.loop-step.step (λ k l. are_done_later m c.args.s _ _ later (c.loop-step.invariant.done last k l)) (end.0 last))

pub sweep_children-returns-in_err-sweep_draws-clause-swept : goal.sweep_children-returns-in_err-sweep_draws-clause-swept
sweep_children-returns-in_err-sweep_draws-clause-swept g t c = swept_after c.loop-step.invariant.swept c.sweep_draws.ensures.swept

pub sweep_children-returns-in_err-sweep_draws-clause-ended : goal.sweep_children-returns-in_err-sweep_draws-clause-ended
sweep_children-returns-in_err-sweep_draws-clause-ended g t c =
    let stop = c.in_err-sweep_draws.field-0.0 in
    let stopped : c.from_residual.result ≡ Err stop = search rules in
    rw stopped (stop_more _ c.args.s (at_work (g.B.Bounds.view c.sweep_draws.new.board) c.sweep_draws.new.worker) stop
    (one_after c.sweep_draws.ensures.swept.worked c.loop-step.invariant.turns) c.in_err-sweep_draws.ensures.ended)

pub sweep_children-returns-clause-ended : goal.sweep_children-returns-clause-ended
sweep_children-returns-clause-ended g t c =
    let m = g.G.Game.model c.args.setup.now.game in
    let all = c.loop-step-test.false in let rows = c.moves.ensures in let cols = c.moves-cols.ensures in (
      λ last one two in_rows in_cols. ring_all (AreDone m (g.B.Bounds.view c.loop-step.board) c.args.s) (c.first_pair-first.result % (c.moves.result * c.moves-cols.result))
          c.moves.result c.moves-cols.result (λ step l. c.loop-step.invariant.done last step (omega arith)) one two (omega arith) (omega arith),
      c.loop-step.invariant.turns,
    )

-- ---- the state after its children
pub sweep_state-returns-in_err-children-clause-swept : goal.sweep_state-returns-in_err-children-clause-swept
sweep_state-returns-in_err-children-clause-swept g t c = rw c.child_rows.ensures.same (swept_none c.requires.here.kept c.requires.swept)

pub sweep_state-returns-in_err-children-clause-ended : goal.sweep_state-returns-in_err-children-clause-ended
sweep_state-returns-in_err-children-clause-ended g t c = let p = err_from_is_err_and c.from_residual.result c.from_residual.ensures.1 in rw (p.1, p.2) tt

pub sweep_state-returns-in_err-sweep_children-clause-swept : goal.sweep_state-returns-in_err-sweep_children-clause-swept
sweep_state-returns-in_err-sweep_children-clause-swept g t c = swept_wider (omega arith) (rw c.child_rows.ensures.same at c.sweep_children.ensures.swept)

pub sweep_state-returns-in_err-sweep_children-clause-ended : goal.sweep_state-returns-in_err-sweep_children-clause-ended
sweep_state-returns-in_err-sweep_children-clause-ended g t c =
    let stopped : c.from_residual-in_err-sweep_children.result ≡ Err c.in_err-sweep_children.field-0.0 = search rules in
    rw stopped (rw c.child_rows.ensures.same at c.in_err-sweep_children.ensures.ended)

pub sweep_state-returns-in_err-growth-clause-swept : goal.sweep_state-returns-in_err-growth-clause-swept
sweep_state-returns-in_err-growth-clause-swept g t c =
    rw c.take_buffers-buffers.ensures (swept_wider (omega arith) (rw c.child_rows.ensures.same at c.sweep_children.ensures.swept))

pub sweep_state-returns-in_err-growth-clause-ended : goal.sweep_state-returns-in_err-growth-clause-ended
sweep_state-returns-in_err-growth-clause-ended g t c = let p = err_from_is_err_and c.from_residual-in_err-growth.result c.from_residual-in_err-growth.ensures.1 in rw (p.1, p.2) tt

pub sweep_state-close_in-end-requires-clause-here : goal.sweep_state-close_in-end-requires-clause-here
sweep_state-close_in-end-requires-clause-here g t c =
    let children = rw c.child_rows.ensures.same at c.sweep_children.ensures.swept in
    rw c.take_buffers-buffers.ensures (at_row_after c.requires.here children.worked)

pub sweep_state-close_in-end-requires-clause-unmet : goal.sweep_state-close_in-end-requires-clause-unmet
sweep_state-close_in-end-requires-clause-unmet g t c =
    let children = rw c.child_rows.ensures.same at c.sweep_children.ensures.swept in
    rw c.take_buffers-buffers.ensures
    (not_added (g.G.Game.model c.args.setup.now.game) (g.met.G.Game.lawful c.args.setup.now.game) c.args.s c.requires.here.reachable children.added c.requires.unmet)

pub sweep_state-returns-clause-swept : goal.sweep_state-returns-clause-swept
sweep_state-returns-clause-swept g t c =
    let children = rw c.child_rows.ensures.same at c.sweep_children.ensures.swept in
    let here = rw c.take_buffers-buffers.ensures at c.close_in-end.ensures.swept in
    rw c.put_back.ensures (swept_after (swept_wider (omega arith) children) here)

pub sweep_state-returns-clause-ended : goal.sweep_state-returns-clause-ended
sweep_state-returns-clause-ended g t c =
    let end = rw c.child_rows.ensures.same at c.in_ok-sweep_children.ensures.ended in
    let here = rw c.take_buffers-buffers.ensures at c.close_in-end.ensures.swept in
    let ended = rw c.take_buffers-buffers.ensures at c.close_in-end.ensures.ended in
    rw c.put_back.ensures (ended_after here.worked _ end.1 c.close_in-end.result ended)
