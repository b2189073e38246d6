use Rattle.serde_json.specs.View.{view}
use Rattle.table_text.specs.States.{is_row_kind}
use Rattle.table_text.proofs.StateKinds.{whole_or_list}
use Rattle.table_text.proofs.kinds.is_state_kind.Goals as goal

pub returns-then-is_array : goal.returns-then-is_array
returns-then-is_array c =
    whole_or_list is_row_kind c.elements.result.now (view c.args.value.now) c.all_rows.result c.is_array.result c.is_whole.result
    c.elements.ensures c.is_array.ensures c.if-is_array.true c.all_rows.ensures c.is_whole.ensures c.if-is_whole.false
