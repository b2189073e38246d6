use Rattle.std.proofs.Common.{sym, subst, ap, arith, ◌≡◌, ◌∙◌, false}
use Rattle.std.specs.Prelude.{Option, Some, None, IfNone, is_some, not}
use Rattle.matrix_game.specs.declared.stage.StagePlans.{StagePlans}
use Rattle.matrix_game.specs.Plans.{IsPureAtSaddle, plans_by}
use Rattle.matrix_game.proofs.Stages.{pure_of_stage}
use Rattle.matrix_game.proofs.cells.Matrix.linear_plans.Goals as goal

if_none : {A : Type 0} (o : Option A) (P : Type 0) → is_some o ≡ false → IfNone o P → P
if_none None P e h = h
if_none (Some x) P e h = absurd (grind (arith, e))

pub returns-then-keeps_law-clause-pure : goal.returns-then-keeps_law-clause-pure
returns-then-keeps_law-clause-pure c = λ a b saddle. absurd (if_none c.saddle.result _ (c.is_none.ensures ∙ ap not c.if-is_none.true) c.saddle.ensures.none a b saddle)

pub returns-clause-pure : goal.returns-clause-pure
returns-clause-pure c =
    let m = c.args.self.now in
    let w = c.args.total in
    subst (λ (x : StagePlans). IsPureAtSaddle m w x) (sym c.plans.ensures.plans)
    (pure_of_stage m w (plans_by m c.in_ok-weights.weights.p.items c.in_ok-weights.weights.v.items) c.in_ok-weights.ensures.stage)
