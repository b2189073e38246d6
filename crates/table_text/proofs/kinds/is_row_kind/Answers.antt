use Rattle.serde_json.specs.View.{view}
use Rattle.table_text.specs.States.{is_cell_kind}
use Rattle.table_text.proofs.StateKinds.{list_from}
use Rattle.table_text.proofs.kinds.is_row_kind.Goals as goal

pub returns-then-is_array : goal.returns-then-is_array
returns-then-is_array c =
    list_from is_cell_kind c.elements.result.now (view c.args.value.now) c.all_cells.result c.is_array.result c.elements.ensures c.is_array.ensures c.if-is_array.true c.all_cells.ensures
