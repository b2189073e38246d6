use Rattle.std.proofs.Common.{◌≡◌, take, drop}
use Rattle.serde_json.specs.View.{view}
use Rattle.fields.specs.Fields.{AllFit}
use Rattle.fields.specs.Positions.{kinds_in}
use Rattle.position.specs.Objects.{values_at}
use Rattle.position.proofs.FieldLemmas.{behind}
use Rattle.position.proofs.object.values.Given as goal

abbrev pub invariant-loop-row : goal.invariant-loop-row
invariant-loop-row l = record {
  told : behind l.values.items (values_at (drop l.row-index l.rows) (view l.object)) ≡ values_at l.rows (view l.object);
  fits : AllFit (kinds_in (take l.row-index l.rows)) l.values.items;
}
