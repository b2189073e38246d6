use Rattle.serde_json.specs.View.{view}
use Rattle.table_text.specs.States.{is_state_kind}
use Rattle.table_text.proofs.StateKinds.{list_from}
use Rattle.table_text.proofs.kinds.are_state_kinds.Goals as goal

pub returns-then-is_array : goal.returns-then-is_array
returns-then-is_array c =
    list_from is_state_kind c.elements.result.now (view c.args.value.now) c.all_states.result c.is_array.result c.elements.ensures c.is_array.ensures c.if-is_array.true c.all_states.ensures
