use Rattle.std.proofs.Common.{[], ◌∷◌}
use Rattle.serde_json.specs.View.{view}
use Rattle.serde_json.specs.declared.value.Value.{Value}
use Rattle.table.specs.declared.nested.TheConstants.{MOST_STATES}
use Rattle.table_text.specs.States.{cell_form_of}
use Rattle.table_text.proofs.StateLists.{room_more, adds_more}
use Rattle.table_text.proofs.lists.Cells.push_row.Goals as goal

pub push_cell-requires-clause-room : goal.push_cell-requires-clause-room
push_cell-requires-clause-room c =
    room_more (λ (v : Value). cell_form_of (view v) ∷ []) MOST_STATES c.args.self.now c.loop-cell.self c.args.cells.now c.loop-cell.cell-index c.cell-item.result c.loop-cell-test.true c.cell-item.is
    c.loop-cell.invariant c.requires.room

pub loop-cell-preserved : goal.loop-cell-preserved
loop-cell-preserved c =
    adds_more (λ (v : Value). cell_form_of (view v) ∷ []) c.args.self.now c.loop-cell.self c.push_cell.new.self c.args.cells.now c.loop-cell.cell-index c.cell-item.result
    c.loop-cell-test.true c.cell-item.is
    c.loop-cell.invariant c.in_ok-push_cell.ensures
