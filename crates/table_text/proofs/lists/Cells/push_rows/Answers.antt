use Rattle.std.proofs.Common.{◌+◌, ◌≤◌, List, length, sym, subst, leb}
use Rattle.serde_json.specs.View.{view}
use Rattle.serde_json.specs.declared.value.Value.{Value}
use Rattle.sim_game.specs.declared.Limits.TheVariants.{Wide}
use Rattle.table.specs.declared.nested.TheConstants.{MOST_STATES}
use Rattle.table.specs.Nested.{CellForm, cell_in_range, row_in_range, draw_count_of}
use Rattle.table_text.specs.States.{cell_form_of, row_form_of, AddsCells}
use Rattle.table_text.proofs.StateLists.{values_pass, all_read, room_more, adds_more, row_cells}
use Rattle.table_text.proofs.lists.Cells.push_rows.Goals as goal

pub push_row-requires-clause-range : goal.push_row-requires-clause-range
push_row-requires-clause-range c =
    values_pass (λ n. leb n 255) (cell_in_range Wide) cell_form_of c.elements.result.now (view c.row-item.result) c.elements.ensures
    (all_read (λ v. row_in_range Wide (row_form_of (view v))) c.args.rows.now c.loop-row.row-index c.row-item.result c.loop-row-test.true c.row-item.is c.requires.range)

pub push_row-requires-clause-room : goal.push_row-requires-clause-room
push_row-requires-clause-room c =
    subst (λ (cells : List CellForm). length c.loop-row.self.draws.rewards.items + draw_count_of cells ≤ MOST_STATES)
    (sym (row_cells c.elements.result.now (view c.row-item.result) c.elements.ensures))
    (room_more (λ (v : Value). row_form_of (view v)) MOST_STATES c.args.self.now c.loop-row.self c.args.rows.now c.loop-row.row-index c.row-item.result c.loop-row-test.true c.row-item.is
    c.loop-row.invariant c.requires.room)

pub loop-row-preserved : goal.loop-row-preserved
loop-row-preserved c =
    adds_more (λ (v : Value). row_form_of (view v)) c.args.self.now c.loop-row.self c.push_row.new.self c.args.rows.now c.loop-row.row-index c.row-item.result c.loop-row-test.true c.row-item.is
    c.loop-row.invariant
    (subst (λ (cells : List CellForm). AddsCells c.loop-row.self c.push_row.new.self cells) (row_cells c.elements.result.now (view c.row-item.result) c.elements.ensures) c.in_ok-push_row.ensures)
