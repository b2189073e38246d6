use Rattle.std.proofs.Common.{Some, w64, ap, ◌∙◌, arith}
use Rattle.std.proofs.lemmas.Int.{to_z-of_z}
use Rattle.std.proofs.lemmas.Result.{IfOk-weaker}
use Rattle.sim_game.proofs.ReachLemmas.{leads_none}
use Rattle.oracle_search.specs.Workers.{WorkerView, at_work}
use Rattle.oracle_search.specs.Searches.{IsAtRow, IsBoardFull}
use Rattle.oracle_search.proofs.GrowLemmas.{row_of_other}
use Rattle.oracle_search.proofs.SweepLemmas.{bounded_early, bounded_begun}
use Rattle.oracle_search.proofs.WorkLemmas.{worked_none, worked_read, worked_full, worked_after, worked_begun, kept_begun}
use Rattle.oracle_search.proofs.state.search.Given.{Over}
use Rattle.oracle_search.proofs.state.search.Goals as goal
use Rattle.oracle_search.proofs.state.search.Goals.{In-Ok, In-Err}

-- the row that was claimed
claimed : (g : Over) (c : In-Ok g) → IsAtRow (g.G.Game.model c.args.setup.now.game) c.args.setup.now.game c.args.s (Some c.in-Ok.row) (at_work (g.B.Bounds.view c.claim.new.self) c.begin.new.self)
claimed g c = let rank = c.rank.ensures in let some = c.if-rank-eq0.false in record {
  game = c.claim.ensures.later.game ∙ c.requires.game;
  reachable = c.requires.reachable;
  has_row = record { goes_on = omega arith; holds = rw c.key.ensures at c.in-Ok.ensures.ok; opened = rw (c.requires.game, c.key.ensures) at c.in-Ok.ensures.opened };
  kept = (worked_read {s = c.args.s} {limit = 0} (worked_none (kept_begun c.begin.ensures c.requires.kept)) c.claim.ensures.later c.claim.ensures.entries).kept;
}

-- a claim that was full
abbrev full : (g : Over) (c : In-Err g) → IsBoardFull (g.G.Game.model c.args.setup.now.game) c.args.s (g.B.Bounds.view c.claim.new.self)
full g c = record { state = c.args.s; is_asked = leads_none (g.G.Game.model c.args.setup.now.game) c.args.s; full = rw (c.requires.game, c.key.ensures) at c.in-Err.ensures.full }

pub returns-then-rank-eq0-clause-worked : goal.returns-then-rank-eq0-clause-worked
returns-then-rank-eq0-clause-worked g c = worked_begun c.args.worker.now c.begin.ensures (worked_none (kept_begun c.begin.ensures c.requires.kept))

pub returns-then-rank-eq0-clause-ended : goal.returns-then-rank-eq0-clause-ended
returns-then-rank-eq0-clause-ended g c =
    let rank = c.rank.ensures in let none = c.if-rank-eq0.true in
    bounded_early (λ some. absurd (omega arith)) (ap (λ (w : WorkerView). w.turns.spent) c.begin.ensures) (ap (λ (w : WorkerView). w.finished.keys) c.begin.ensures)

pub search_row-requires-clause-here : goal.search_row-requires-clause-here
search_row-requires-clause-here g c = claimed g (goal.at.search_row-requires-clause-here g c).In-Ok

pub returns-in-Ok-clause-worked : goal.returns-in-Ok-clause-worked
returns-in-Ok-clause-worked g c = worked_begun c.args.worker.now c.begin.ensures (worked_after
    (worked_read (worked_none (kept_begun c.begin.ensures c.requires.kept)) c.claim.ensures.later c.claim.ensures.entries) c.search_row.ensures.worked)

pub returns-in-Ok-clause-ended : goal.returns-in-Ok-clause-ended
returns-in-Ok-clause-ended g c = IfOk-weaker c.search_row.result _ _ (λ end. bounded_begun c.args.worker.now c.begin.ensures)
    (rw (to_z-of_z w64 c.args.target c.ranges.target) at c.search_row.ensures.ended)

pub returns-in-Ok-clause-rowed : goal.returns-in-Ok-clause-rowed
returns-in-Ok-clause-rowed g c goes_on =
    let row = c.search_row.ensures.worked.board.later.keys c.in-Ok.row _ (rw c.key.ensures at c.in-Ok.ensures.ok) in
    IfOk-weaker c.search_row.result _ _ (λ end _ not. (c.in-Ok.row, row)) c.search_row.ensures.pure

pub returns-in-Err-clause-worked : goal.returns-in-Err-clause-worked
returns-in-Err-clause-worked g c = worked_begun c.args.worker.now c.begin.ensures (worked_full (worked_none (kept_begun c.begin.ensures c.requires.kept)) c.claim.ensures.later c.claim.ensures.entries
    c.note_full.ensures (full g (goal.at.returns-in-Err-clause-worked g c).In-Err))

pub returns-in-Err-clause-ended : goal.returns-in-Err-clause-ended
returns-in-Err-clause-ended g c =
    let m = g.G.Game.model c.args.setup.now.game in
    let was = full g (goal.at.returns-in-Err-clause-ended g c).In-Err in
    bounded_early
    (ap (λ (w : WorkerView). w.finished.was_full) c.note_full.ensures, was, λ row below held. absurd (row_of_other m _ (m.key c.args.s) was.full row below held))
    (ap (λ (w : WorkerView). w.turns.spent) c.note_full.ensures ∙ ap (λ (w : WorkerView). w.turns.spent) c.begin.ensures)
    (ap (λ (w : WorkerView). w.finished.keys) c.note_full.ensures ∙ ap (λ (w : WorkerView). w.finished.keys) c.begin.ensures)
