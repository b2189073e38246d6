use Rattle.std.proofs.Common.{rules, ◌≡◌, Err, w64, SFits, ap, arith}
use Rattle.std.proofs.lemmas.Int.{to_z-of_z}
use Rattle.oracle_search.specs.Workers.{WorkerView, at_work}
use Rattle.oracle_search.proofs.SweepLemmas.{made_wider, made_more, made_owed, made_end, ends_settled, owed_none}
use Rattle.oracle_search.proofs.WorkLemmas.{worked_none, worked_after, worked_forgot, at_row_after, stop_more}
use Rattle.oracle_search.proofs.sweeping.make_sweeps.Goals as goal
use Rattle.oracle_search.proofs.sweeping.make_sweeps.Goals.{then-goal-gt0+in_ok-make_sweep+else-branch, else-goal-gt0}

pub loop-goal-init : goal.loop-goal-init
loop-goal-init g c =
    let spent = ap (λ (w : WorkerView). w.turns.spent) c.forget_searches.ensures in
    record { worked = worked_forgot (worked_none c.requires.here.kept) c.forget_searches.ensures; owed = λ not. owed_none _ (omega arith) }

pub make_sweep-requires-clause-here : goal.make_sweep-requires-clause-here
make_sweep-requires-clause-here g c = at_row_after c.requires.here c.loop-goal.invariant.worked

pub loop-goal-preserved : goal.loop-goal-preserved
loop-goal-preserved g c = elim c.if-goal-gt0.branch [
  | then-goal-gt0+in_ok-make_sweep+else-branch w ↦
      let fits : SFits w64 c.args.target = search rules in
      rw (w.board-is, w.worker-is) (made_more c.loop-goal.invariant w.make_sweep.ensures.worked
      (rw (w.if-branch.false, w.with_goal-sweep.ensures, to_z-of_z w64 c.args.target fits) at w.in_ok-make_sweep.ensures.ended))
  | else-goal-gt0 w ↦ rw (w.board-is, w.worker-is) (made_wider (omega arith) c.loop-goal.invariant)
]

pub returns-then-branch-clause-worked : goal.returns-then-branch-clause-worked
returns-then-branch-clause-worked g c = worked_after c.loop-goal.invariant.worked c.make_sweep.ensures.worked

pub returns-then-branch-clause-ended : goal.returns-then-branch-clause-ended
returns-then-branch-clause-ended g c =
    let fits : SFits w64 c.args.target = search rules in
    made_end c.loop-goal.invariant c.make_sweep.ensures.worked 1 0 (omega arith) (omega arith)
    (rw (c.if-branch.true, c.with_goal-sweep.ensures, to_z-of_z w64 c.args.target fits) at c.in_ok-make_sweep.ensures.ended)

pub returns-in_err-make_sweep-clause-worked : goal.returns-in_err-make_sweep-clause-worked
returns-in_err-make_sweep-clause-worked g c = worked_after c.loop-goal.invariant.worked c.make_sweep.ensures.worked

pub returns-in_err-make_sweep-clause-stopped : goal.returns-in_err-make_sweep-clause-stopped
returns-in_err-make_sweep-clause-stopped g c =
    let stop = c.in_err-make_sweep.field-0.0 in
    let stopped : c.from_residual.result ≡ Err stop = search rules in
    rw stopped (stop_more _ c.args.s (at_work (g.B.Bounds.view c.make_sweep.new.board) c.make_sweep.new.worker) stop
    (made_owed c.loop-goal.invariant c.make_sweep.ensures.worked 1 0 (omega arith) (omega arith)) (rw c.with_goal-sweep.ensures at c.in_err-make_sweep.ensures.stopped))

pub make_sweep-requires-2-clause-here : goal.make_sweep-requires-2-clause-here
make_sweep-requires-2-clause-here g c = at_row_after c.requires.here c.loop-goal.invariant.worked

pub returns-clause-worked : goal.returns-clause-worked
returns-clause-worked g c = worked_after c.loop-goal.invariant.worked c.make_sweep-2.ensures.worked

pub returns-clause-ended : goal.returns-clause-ended
returns-clause-ended g c =
    let fits : SFits w64 c.args.target = search rules in
    made_end c.loop-goal.invariant c.make_sweep-2.ensures.worked 0 1 (omega arith) (omega arith)
    (ends_settled c.requires.here.has_row.goes_on
    (rw (c.if-branch-2.false, c.last.ensures, to_z-of_z w64 c.args.target fits) at c.in_ok-make_sweep-2.ensures.ended))

pub returns-then-branch-2-clause-worked : goal.returns-then-branch-2-clause-worked
returns-then-branch-2-clause-worked g c = worked_after c.loop-goal.invariant.worked c.make_sweep-2.ensures.worked

pub returns-then-branch-2-clause-ended : goal.returns-then-branch-2-clause-ended
returns-then-branch-2-clause-ended g c =
    let fits : SFits w64 c.args.target = search rules in
    made_end c.loop-goal.invariant c.make_sweep-2.ensures.worked 0 1 (omega arith) (omega arith)
    (rw (c.if-branch-2.true, c.last.ensures, to_z-of_z w64 c.args.target fits) at c.in_ok-make_sweep-2.ensures.ended)

pub returns-in_err-make_sweep-2-clause-worked : goal.returns-in_err-make_sweep-2-clause-worked
returns-in_err-make_sweep-2-clause-worked g c = worked_after c.loop-goal.invariant.worked c.make_sweep-2.ensures.worked

pub returns-in_err-make_sweep-2-clause-stopped : goal.returns-in_err-make_sweep-2-clause-stopped
returns-in_err-make_sweep-2-clause-stopped g c =
    let stop = c.in_err-make_sweep-2.field-0.0 in
    let stopped : c.from_residual-in_err-make_sweep-2.result ≡ Err stop = search rules in
    rw stopped (stop_more _ c.args.s (at_work (g.B.Bounds.view c.make_sweep-2.new.board) c.make_sweep-2.new.worker) stop
    (made_owed c.loop-goal.invariant c.make_sweep-2.ensures.worked 0 1 (omega arith) (omega arith)) (rw c.last.ensures at c.in_err-make_sweep-2.ensures.stopped))
