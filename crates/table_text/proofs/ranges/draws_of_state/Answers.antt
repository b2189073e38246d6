use Rattle.std.proofs.Common.{List, ◌∙◌, ap, min}
use Rattle.serde_json.specs.View.{view}
use Rattle.table.specs.Nested.{CellForm, draw_count_of}
use Rattle.table_text.proofs.StateCounts.{cells_given}
use Rattle.table_text.proofs.ranges.draws_of_state.Goals as goal

pub returns : goal.returns
returns c =
    c.draws_of_rows.ensures ∙ ap (λ (cells : List CellForm). min (draw_count_of cells) 18446744073709551615) (cells_given c.elements.result.now (view c.args.state.now) c.elements.ensures)
