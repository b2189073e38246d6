use Rattle.std.proofs.Common.{◌≡◌, ◌*◌, ℤ, List, length, ap, subst, ◌∙◌, arith}
use Rattle.std.proofs.lemmas.Bool.{false≢true}
use Rattle.std.proofs.lemmas.List.FromFn.{length-map-range_with_len}
use Rattle.matrix_game.specs.Grid.{Grid}
use Rattle.restricted_game.specs.Runs.{IsHeldStage}
use Rattle.restricted_game.specs.Tables.{held_grid}
use Rattle.restricted_game.proofs.stage.solve_held.Goals as goal

pub returns-in-Ok-solve-clause-stage : goal.returns-in-Ok-solve-clause-stage
returns-in-Ok-solve-clause-stage c =
    let plans = c.in-Ok-solve.ensures.plans in
    let is : c.in-Ok.matrix ≡ held_grid c.args.cells.now.items.items c.args.cells.now.width c.args.rows.now c.args.cols.now =
    c.in-Ok.ensures.matrix ∙ ap (λ (cells : List ℤ). record { rows = length c.args.rows.now; cols = length c.args.cols.now; cells = cells }) c.in_ok-held.ensures.cells in
    subst (λ (grid : Grid). IsHeldStage c.args.solver.now c.args.total grid c.in-Ok-solve.plans.p c.in-Ok-solve.plans.v) is (record {
      stage = c.in-Ok-solve.ensures.stage;
      resolution = rw (← plans.low, ← plans.high) plans.resolution;
      rows = plans.rows;
      cols = plans.cols;
    })

pub unreachable-requires-in-Err : goal.unreachable-requires-in-Err
unreachable-requires-in-Err c =
    let cells = c.args.cells.now in
    let all = ap (λ (l : List ℤ). length l) c.in_ok-held.ensures.cells ∙ length-map-range_with_len _ 0 (length c.args.rows.now * length c.args.cols.now) in
    false≢true (c.in-Err.ensures.ok.1 (
      record {
        some_row = c.requires.rows.some;
        few_rows = omega (arith, c.requires.rows.few, cells.few_rows);
        some_col = c.requires.cols.some;
        few_cols = omega (arith, c.requires.cols.few, cells.few_cols);
        all_cells = all;
      },
      c.in_ok-held.ensures.small,
    ))
