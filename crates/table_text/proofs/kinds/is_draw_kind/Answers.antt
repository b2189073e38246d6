use Rattle.serde_json.specs.View.{view}
use Rattle.table_text.specs.Elements.{is_whole}
use Rattle.table_text.proofs.StateKinds.{list_from}
use Rattle.table_text.proofs.kinds.is_draw_kind.Goals as goal

pub returns-then-is_array : goal.returns-then-is_array
returns-then-is_array c =
    list_from is_whole c.elements.result.now (view c.args.value.now) c.all_whole.result c.is_array.result c.elements.ensures c.is_array.ensures c.if-is_array.true c.all_whole.ensures
