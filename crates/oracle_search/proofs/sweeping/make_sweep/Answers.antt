use Rattle.std.proofs.Common.{rules, ◌≡◌, ⊎_elim, ◌+◌, ◌≤◌, [], pos, Err, w64, SFits, ap, arith}
use Rattle.std.proofs.lemmas.Int.{to_z-of_z}
use Rattle.bounds_board.proofs.ViewLemmas.{later_refl}
use Rattle.oracle_search.specs.Finished.{IsWithin, IsBeyond}
use Rattle.oracle_search.specs.Workers.{WorkerView, at_work}
use Rattle.oracle_search.specs.Searches.{IsWorked}
use Rattle.oracle_search.proofs.KeyLemmas.{done_later}
use Rattle.oracle_search.proofs.SweepLemmas.{met_not_beyond, owed_sweep, after_sweep}
use Rattle.oracle_search.proofs.WorkLemmas.{worked_none, worked_after, worked_read, worked_swept, stop_more}
use Rattle.oracle_search.proofs.sweeping.make_sweep.Given.{Over}
use Rattle.oracle_search.proofs.sweeping.make_sweep.Goals as goal
use Rattle.oracle_search.proofs.sweeping.make_sweep.Goals.{After-sweep_state}

-- what was kept up to the end of the sweep
swept : (g : Over) (c : After-sweep_state g) → IsWorked (g.G.Game.model c.args.setup.now.game) c.args.s (at_work (g.B.Bounds.view c.args.board.now) c.args.worker.now)
    (at_work (g.B.Bounds.view c.sweep_state.new.board) c.sweep_state.new.worker)
swept g c = worked_after (worked_swept [] (worked_none c.requires.here.kept) c.begin_sweep.ensures) c.sweep_state.ensures.swept.worked

pub returns-clause-worked : goal.returns-clause-worked
returns-clause-worked g c = worked_read (swept g (goal.at.returns-clause-worked g c).After-sweep_state) c.is_within_told.ensures.later c.is_within_told.ensures.entries

pub returns-clause-ended : goal.returns-clause-ended
returns-clause-ended g c =
    let m = g.G.Game.model c.args.setup.now.game in
    let v = g.B.Bounds.view c.sweep_state.new.board in
    let t = g.B.Bounds.view c.is_within_told.new.board in
    let fits : SFits w64 c.args.target = search rules in
    let end = c.in_ok-sweep_state.ensures.ended in
    let spent : c.begin_sweep.new.self.turns.spent ≡ c.args.worker.now.turns.spent = ap (λ (w : WorkerView). w.turns.spent) c.begin_sweep.ensures in
    let owed = owed_sweep c.args.worker.now c.begin_sweep.ensures c.is_within_told.ensures.later c.sweep_state.ensures.swept.kept end.1 in
    after_sweep c.is_within_told.result (rw (to_z-of_z w64 c.args.target fits) at c.is_within_told.ensures.within)
    (λ (within : IsWithin m t c.args.s c.args.target). record { ends = λ _. within; owed = owed; turned = λ is. absurd (cc) })
    (λ (beyond : IsBeyond m t c.args.s c.args.target). record {
      beyond = beyond;
      close = λ last. done_later m c.args.s c.is_within_told.ensures.later (end.0 last) c.requires.here.has_row.goes_on;
      owed = owed;
      turned = λ last. ⊎_elim
          (λ (took : c.begin_sweep.new.self.turns.spent + 1 ≤ c.sweep_state.new.worker.turns.spent). omega arith)
          (λ (met : IsWithin m v c.args.s (pos 0)). absurd (met_not_beyond m v t c.args.s c.args.target c.requires.target c.is_within_told.ensures.later met beyond))
          (c.in_ok-sweep_state.ensures.turned last);
    })

pub returns-in_err-sweep_state-clause-worked : goal.returns-in_err-sweep_state-clause-worked
returns-in_err-sweep_state-clause-worked g c = swept g (goal.at.returns-in_err-sweep_state-clause-worked g c).After-sweep_state

pub returns-in_err-sweep_state-clause-stopped : goal.returns-in_err-sweep_state-clause-stopped
returns-in_err-sweep_state-clause-stopped g c =
    let stop = c.in_err-sweep_state.field-0.0 in
    let stopped : c.from_residual.result ≡ Err stop = search rules in
    rw stopped (stop_more _ c.args.s (at_work (g.B.Bounds.view c.sweep_state.new.board) c.sweep_state.new.worker) stop
    (owed_sweep c.args.worker.now c.begin_sweep.ensures (later_refl _) c.sweep_state.ensures.swept.kept) c.in_err-sweep_state.ensures.ended)
