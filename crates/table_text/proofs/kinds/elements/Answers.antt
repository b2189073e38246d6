use Rattle.table_text.proofs.StateKinds.{elements_some}
use Rattle.std.proofs.Common.{◌∙◌, ap, map, List}
use Rattle.serde_json.specs.View.{view}
use Rattle.serde_json.specs.declared.value.Value.{Value}
use Rattle.table_text.proofs.kinds.elements.Goals as goal

pub returns-in-Some : goal.returns-in-Some
returns-in-Some c =
    ap (λ (vs : List Value). map view vs) c.as_slice.ensures.value ∙ elements_some c.in-Some.items.now.items (view c.args.value.now) c.in-Some.ensures
