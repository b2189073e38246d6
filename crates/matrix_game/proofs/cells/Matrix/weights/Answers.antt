use Rattle.std.proofs.Common.{subst, arith, ap, ◌∙◌, sym}
use Rattle.matrix_game.specs.declared.rounds.Solution.{Solution}
use Rattle.matrix_game.specs.Grid.{IsMatrix}
use Rattle.matrix_game.specs.Rounds.{IsStage, pure}
use Rattle.matrix_game.proofs.Stages.{plans_of_stage}
use Rattle.matrix_game.proofs.cells.Matrix.weights.Goals as goal
use Rattle.matrix_game.proofs.cells.Matrix.weights.Goals.{in-Some+in_ok-weights-in-Some, in-None+in_ok-weights-in-None}

pub returns-clause-stage : goal.returns-clause-stage
returns-clause-stage c =
    let m = c.args.self.now in
    let w = c.args.weight in
    elim c.match-saddle.branch [
      | in-Some+in_ok-weights-in-Some b ↦
          pure b.in-Some.row b.in-Some.col b.in-Some.ensures.found
          (ap (λ (x : Solution). x.p.items) b.weights-is ∙ b.in_ok-weights-in-Some.ensures.p)
          (ap (λ (x : Solution). x.v.items) b.weights-is ∙ b.in_ok-weights-in-Some.ensures.v)
      | in-None+in_ok-weights-in-None b ↦
          subst (λ (x : Solution). IsStage m w x.p.items x.v.items) (sym b.weights-is) b.in_ok-weights-in-None.ensures.stage
    ]

pub returns-clause-plans : goal.returns-clause-plans
returns-clause-plans c =
    let matrix : IsMatrix c.args.self.now = subst IsMatrix c.self.view_is c.self.invariant in
    plans_of_stage c.args.self.now c.args.weight c.match-saddle.weights.p.items c.match-saddle.weights.v.items matrix (omega arith) (returns-clause-stage c)
