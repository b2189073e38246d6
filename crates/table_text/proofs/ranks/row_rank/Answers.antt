use Rattle.std.proofs.Common.{List, ◌∙◌, ap, map}
use Rattle.std.specs.List.{flat_map}
use Rattle.serde_json.specs.View.{view}
use Rattle.table.specs.Nested.{CellForm, greatest_in, named_by}
use Rattle.table_text.specs.States.{cell_form_of, rank_in}
use Rattle.table_text.proofs.StateLists.{forms_are}
use Rattle.table_text.proofs.ranks.row_rank.Goals as goal

pub returns : goal.returns
returns c =
    c.cells_rank.ensures
    ∙ ap (λ (cells : List CellForm). greatest_in (map (rank_in c.args.ranks.now) (flat_map named_by cells))) (forms_are cell_form_of c.elements.result.now (view c.args.row.now) c.elements.ensures)
