use Rattle.std.proofs.Common.{◌∙◌, leb}
use Rattle.serde_json.specs.View.{view}
use Rattle.table.specs.Nested.{cell_in_range}
use Rattle.table_text.specs.States.{cell_form_of}
use Rattle.table_text.proofs.StateKinds.{few_forms}
use Rattle.table_text.proofs.ranges.row_in_range.Goals as goal

pub returns : goal.returns
returns c =
    c.are_cells.ensures ∙ few_forms (λ n. leb n 255) (cell_in_range c.args.limits) cell_form_of c.elements.result.now (view c.args.row.now) c.elements.ensures
