use Rattle.std.proofs.Common.{◌≡◌, inl, ap, ◌∙◌}
use Rattle.sim_game.specs.Model.{LeadsTo}
use Rattle.bounds_board.proofs.FullLemmas.{full_weaker}
use Rattle.restricted_game.proofs.ReadLemmas.{read_child_leads}
use Rattle.oracle_search.specs.Workers.{WorkerView}
use Rattle.oracle_search.proofs.GrowLemmas.{same_kind}
use Rattle.oracle_search.proofs.WorkLemmas.{node_of, worked_turn, worked_none, worked_after, worked_asked}
use Rattle.oracle_search.proofs.growth.take_turn.Goals as goal

pub step-requires-clause-here : goal.step-requires-clause-here
step-requires-clause-here g c = node_of c.requires.here

pub returns-clause-worked : goal.returns-clause-worked
returns-clause-worked g c =
    let asked = c.ask.new.self in
    let turns : c.worker.inside.turns ≡ asked.turns = ap (λ (w : WorkerView). w.turns) c.worker.view_is in
    let kind = same_kind c.step.new.solver c.worker.inside.stages c.step.ensures.kind ∙ ap (λ (w : WorkerView). w.linear) c.worker.view_is in
    let here = worked_asked (worked_none c.requires.here.kept) c.ask.ensures in
    worked_after here (worked_turn here.kept c.step.ensures.better (λ none. c.step.ensures.turn.none (inl (c.step.ensures.turn.spent.1 (rw turns none))) ∙ turns)
    (rw turns at c.step.ensures.turn.at_most_one) (rw turns at c.step.ensures.turn.unposted) (λ i. record (c.worker.view_is i) { turns = c.step.new.turns; linear = kind i }))

pub returns-clause-full : goal.returns-clause-full
returns-clause-full g c is =
    let m = g.G.Game.model c.args.setup.now.game in
    full_weaker m (g.B.Bounds.view c.step.new.board) _ (LeadsTo m c.args.s) (read_child_leads m c.args.s c.args.growth.now.held.rows c.args.growth.now.held.cols) (c.step.ensures.full is)
