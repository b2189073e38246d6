use Rattle.std.proofs.Common.{ℕ, sym, subst, ◌∙◌}
use Rattle.sim_game.specs.declared.Side.TheVariants.{One, Two}
use Rattle.restricted_game.specs.Held.{AreMoves}
use Rattle.restricted_game.specs.Tables.{held_grid}
use Rattle.restricted_game.proofs.PlanLemmas.{cell_plan_is, held_grid_is}
use Rattle.restricted_game.proofs.held.Restricted.plan.Goals as goal

pub solve_held-requires-clause-rows : goal.solve_held-requires-clause-rows
solve_held-requires-clause-rows g c =
    subst (λ (n : ℕ). AreMoves n c.rows-rows.result.now) (c.requires.rows ∙ sym c.requires.cells.shape.height ∙ sym c.requires.cells.lows.height) c.rows-rows.ensures.held

pub solve_held-requires-clause-cols : goal.solve_held-requires-clause-cols
solve_held-requires-clause-cols g c =
    subst (λ (n : ℕ). AreMoves n c.cols-cols.result.now) (c.requires.cols ∙ sym c.requires.cells.shape.width ∙ sym c.requires.cells.lows.width) c.cols-cols.ensures.held

pub plan_side-requires-clause-own : goal.plan_side-requires-clause-own
plan_side-requires-clause-own g c =
    subst (λ (n : ℕ). AreMoves n c.rows-rows.result.now) (c.requires.rows ∙ sym c.requires.cells.shape.height ∙ sym c.requires.cells.lows.height) c.rows-rows.ensures.held

pub plan_side-requires-clause-others : goal.plan_side-requires-clause-others
plan_side-requires-clause-others g c =
    subst (λ (n : ℕ). AreMoves n c.cols-cols.result.now) (c.requires.cols ∙ sym c.requires.cells.shape.width ∙ sym c.requires.cells.lows.width) c.cols-cols.ensures.held

pub plan_side-requires-2-clause-own : goal.plan_side-requires-2-clause-own
plan_side-requires-2-clause-own g c =
    subst (λ (n : ℕ). AreMoves n c.cols-cols.result.now) (c.requires.cols ∙ sym c.requires.cells.shape.width ∙ sym c.requires.cells.highs.width) c.cols-cols.ensures.held

pub plan_side-requires-2-clause-others : goal.plan_side-requires-2-clause-others
plan_side-requires-2-clause-others g c =
    subst (λ (n : ℕ). AreMoves n c.rows-rows.result.now) (c.requires.rows ∙ sym c.requires.cells.shape.height ∙ sym c.requires.cells.highs.height) c.rows-rows.ensures.held

pub returns-clause-plans : goal.returns-clause-plans
returns-clause-plans g c =
    let m = g.G.Game.model c.args.g in
    let table = c.args.numbers.now.table in
    let lows = c.args.numbers.now.lows in
    let highs = c.args.numbers.now.highs in
    let rows = c.args.self.now.rows in
    let cols = c.args.self.now.cols in
    let held_rows : AreMoves (m.moves One c.args.s) c.args.self.now.rows = rw (c.rows-rows.ensures.rows, c.requires.rows) at c.rows-rows.ensures.held in
    let held_cols : AreMoves (m.moves Two c.args.s) c.args.self.now.cols = rw (c.cols-cols.ensures.cols, c.requires.cols) at c.cols-cols.ensures.held in
    let one = cell_plan_is m One c.args.s table lows c.args.total c.rows-rows.result.now c.cols-cols.result.now _ c.in_ok-one.one c.requires.cells.shape c.requires.cells.lows c.in_ok-one.ensures in
    let two = cell_plan_is m Two c.args.s table highs c.args.total c.cols-cols.result.now c.rows-rows.result.now _ c.in_ok-two.two c.requires.cells.shape c.requires.cells.highs c.in_ok-two.ensures in
    record {
      grid = held_grid lows.items.items table.width rows cols;
      row_weights = c.in_ok-stage.stage.p;
      col_weights = c.in_ok-stage.stage.v;
      stage = rw (c.requires.cells.lows.width, c.rows-rows.ensures.rows, c.cols-cols.ensures.cols) at c.in_ok-stage.ensures.stage;
      is_grid = held_grid_is m c.args.s table lows.items.items rows cols c.requires.cells.shape held_rows held_cols c.requires.cells.lows.items;
      one = rw (c.as_slice-p.ensures, c.rows-rows.ensures.rows, c.cols-cols.ensures.cols) at one;
      two = rw (c.as_slice-v.ensures, c.rows-rows.ensures.rows, c.cols-cols.ensures.cols) at two;
    }
