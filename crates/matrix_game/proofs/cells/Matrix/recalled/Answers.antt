use Rattle.std.proofs.Common.{subst, sym}
use Rattle.matrix_game.specs.Memories.{AnswersKey}
use Rattle.matrix_game.proofs.cells.Matrix.recalled.Goals as goal

pub returns-in-Some-recall-clause-stage : goal.returns-in-Some-recall-clause-stage
returns-in-Some-recall-clause-stage c = (c.in-Some.ensures c.in-Some-recall.solution.p.items c.in-Some-recall.solution.v.items).1 c.in-Some-recall.ensures.weights

pub keep-requires : goal.keep-requires
keep-requires c =
    let kept = (c.in-Some.ensures c.in_ok-played.played.p.items c.in_ok-played.played.v.items).0 c.in_ok-played.ensures in
    subst (λ p. AnswersKey c.in-Some.key p c.in-Ok.copy.v.items) (sym c.in-Ok.ensures.p)
    (subst (λ v. AnswersKey c.in-Some.key c.in_ok-played.played.p.items v) (sym c.in-Ok.ensures.v) kept)
