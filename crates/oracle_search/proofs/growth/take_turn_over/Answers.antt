use Rattle.std.proofs.Common.{◌≡◌, ap, ◌∙◌, arith}
use Rattle.oracle_search.specs.Workers.{WorkerView}
use Rattle.oracle_search.proofs.GrowLemmas.{same_kind}
use Rattle.oracle_search.proofs.WorkLemmas.{node_of, worked_turn}
use Rattle.oracle_search.proofs.growth.take_turn_over.Goals as goal

pub step_over-requires-clause-here : goal.step_over-requires-clause-here
step_over-requires-clause-here g c = node_of c.requires.here

pub returns-clause-worked : goal.returns-clause-worked
returns-clause-worked g c =
    let turns : c.worker.inside.turns ≡ c.args.worker.now.turns = ap (λ (w : WorkerView). w.turns) c.worker.view_is in
    let kind = same_kind c.step_over.new.solver c.worker.inside.stages c.step_over.ensures.kind ∙ ap (λ (w : WorkerView). w.linear) c.worker.view_is in
    worked_turn c.requires.here.kept c.step_over.ensures.better (λ none. absurd (omega arith)) (rw turns at c.step_over.ensures.turn.at_most_one)
    (λ same. ap (λ v. v.entries) (c.step_over.ensures.turn.unposted (rw turns same))) (λ i. record (c.worker.view_is i) { turns = c.step_over.new.turns; linear = kind i })
