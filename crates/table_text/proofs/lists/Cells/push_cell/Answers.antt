use Rattle.std.proofs.Common.{[], ◌∷◌, ◌∙◌, ap, sym, subst, leb}
use Rattle.serde_json.specs.View.{view}
use Rattle.sim_game.specs.declared.Limits.TheVariants.{Wide}
use Rattle.table.specs.Nested.{CellForm, Draws, draw_in_range, cell_in_range}
use Rattle.table_text.specs.States.{draw_form_of, AddsCells}
use Rattle.table_text.proofs.StateKinds.{cell_list}
use Rattle.table_text.proofs.StateLists.{values_pass, forms_are}
use Rattle.table_text.proofs.lists.Cells.push_cell.Goals as goal

pub push_draws-requires-clause-range : goal.push_draws-requires-clause-range
push_draws-requires-clause-range c =
    values_pass (λ n. leb n 255) (draw_in_range Wide) draw_form_of c.elements.result.now (view c.args.cell.now) c.elements.ensures
    (sym (ap (cell_in_range Wide) (cell_list (view c.args.cell.now) (sym c.is_whole.ensures ∙ c.if-is_whole.false))) ∙ c.requires.range)

pub returns-in_ok-push_draws : goal.returns-in_ok-push_draws
returns-in_ok-push_draws c =
    subst (λ (cell : CellForm). AddsCells c.args.self.now c.push_draws.new.self (cell ∷ []))
    (ap Draws (forms_are draw_form_of c.elements.result.now (view c.args.cell.now) c.elements.ensures) ∙ sym (cell_list (view c.args.cell.now) (sym c.is_whole.ensures ∙ c.if-is_whole.false)))
    c.in_ok-push_draws.ensures
