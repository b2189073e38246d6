use Rattle.std.proofs.Common.{◌∙◌, ap, sym, leb, rules, w64, SFits}
use Rattle.std.proofs.lemmas.Int.{to_z-of_z}
use Rattle.serde_json.specs.View.{view}
use Rattle.table.specs.Nested.{draw_in_range, cell_in_range}
use Rattle.table_text.specs.States.{draw_form_of}
use Rattle.table_text.proofs.StateKinds.{few_forms, cell_whole, cell_list}
use Rattle.table_text.proofs.ranges.cell_in_range.Goals as goal

pub returns-then-is_whole : goal.returns-then-is_whole
returns-then-is_whole c =
    let fits : SFits w64 c.whole.result = search rules in
    let small = rw (to_z-of_z w64 c.whole.result fits, c.whole.ensures) at c.names_state.ensures in
    small ∙ sym (ap (cell_in_range c.args.limits) (cell_whole (view c.args.cell.now) (sym c.is_whole.ensures ∙ c.if-is_whole.true)))

pub returns-else-is_whole : goal.returns-else-is_whole
returns-else-is_whole c =
    c.are_draws.ensures
    ∙ few_forms (λ n. leb n 255) (draw_in_range c.args.limits) draw_form_of c.elements.result.now (view c.args.cell.now) c.elements.ensures
    ∙ sym (ap (cell_in_range c.args.limits) (cell_list (view c.args.cell.now) (sym c.is_whole.ensures ∙ c.if-is_whole.false)))
