use Rattle.std.proofs.Common.{arith, ap, rules}
use Rattle.matrix_game.proofs.Stages.{first_saddle_from, no_saddle_more, no_saddle_row}
use Rattle.matrix_game.specs.Grid.{Grid, IsSaddle}
use Rattle.matrix_game.proofs.cells.Matrix.saddle.Goals as goal

pub returns-then-is_saddle-clause-found : goal.returns-then-is_saddle-clause-found
returns-then-is_saddle-clause-found c =
    let here : IsSaddle c.args.self.now c.loop-row.row c.loop-col.col = search rules in
    first_saddle_from c.args.self.now c.loop-row.row c.loop-col.col here c.loop-row.invariant c.loop-col.invariant

pub loop-col-preserved : goal.loop-col-preserved
loop-col-preserved c =
    let here : IsSaddle c.args.self.now c.loop-row.row c.loop-col.col → ⊥ = λ s. search rules in
    no_saddle_more c.args.self.now c.loop-row.row c.loop-col.col c.loop-col.invariant here

pub loop-row-preserved : goal.loop-row-preserved
loop-row-preserved c =
    let cols = ap (λ (m : Grid). m.cols) c.self.view_is in
    no_saddle_row c.args.self.now c.loop-row.row c.loop-row.invariant (λ d h. c.loop-col.invariant d (omega arith))

pub returns-clause-none : goal.returns-clause-none
returns-clause-none c =
    let rows = ap (λ (m : Grid). m.rows) c.self.view_is in
    λ a b s. let h = s.row_in in c.loop-row.invariant a b (omega arith) s
