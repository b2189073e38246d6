use Rattle.std.proofs.Common.{List, ◌∙◌, ap, min, length}
use Rattle.serde_json.specs.View.{view}
use Rattle.table.specs.Nested.{CellForm}
use Rattle.table_text.proofs.StateCounts.{cells_given}
use Rattle.table_text.proofs.ranges.cells_of_state.Goals as goal

pub returns : goal.returns
returns c =
    c.cells_of_rows.ensures ∙ ap (λ (cells : List CellForm). min (length cells) 18446744073709551615) (cells_given c.elements.result.now (view c.args.state.now) c.elements.ensures)
