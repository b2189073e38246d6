use Rattle.std.proofs.Common.{ℤ, List, ◌∙◌, ap, sym, map}
use Rattle.serde_json.specs.View.{view}
use Rattle.table.specs.Nested.{CellForm, Draws, greatest_in, named_by}
use Rattle.table_text.specs.States.{draw_form_of, rank_in}
use Rattle.table_text.proofs.StateKinds.{cell_list}
use Rattle.table_text.proofs.StateLists.{forms_are}
use Rattle.table_text.proofs.ranks.cell_rank.Goals as goal

pub returns-else-is_whole : goal.returns-else-is_whole
returns-else-is_whole c =
    c.draws_rank.ensures
    ∙ ap (λ (draws : List (List ℤ)). greatest_in (map (rank_in c.args.ranks.now) (named_by (Draws draws)))) (forms_are draw_form_of c.elements.result.now (view c.args.cell.now) c.elements.ensures)
    ∙ ap (λ (cell : CellForm). greatest_in (map (rank_in c.args.ranks.now) (named_by cell))) (sym (cell_list (view c.args.cell.now) (sym c.is_whole.ensures ∙ c.if-is_whole.false)))
