use Rattle.std.proofs.Common.{◌∙◌, ap, sym, leb, rules, w64, SFits}
use Rattle.std.proofs.lemmas.Int.{to_z-of_z}
use Rattle.serde_json.specs.View.{view}
use Rattle.table.specs.Nested.{row_in_range, state_in_range}
use Rattle.table_text.specs.States.{row_form_of}
use Rattle.table_text.proofs.StateKinds.{few_forms, state_whole, state_list}
use Rattle.table_text.proofs.ranges.state_in_range.Goals as goal

pub returns-then-is_whole : goal.returns-then-is_whole
returns-then-is_whole c =
    let fits : SFits w64 c.whole.result = search rules in
    let small = rw (to_z-of_z w64 c.whole.result fits, c.whole.ensures) at c.is_payoff.ensures in
    small ∙ sym (ap (state_in_range c.args.limits) (state_whole (view c.args.state.now) (sym c.is_whole.ensures ∙ c.if-is_whole.true)))

pub returns-else-is_whole : goal.returns-else-is_whole
returns-else-is_whole c =
    c.are_rows.ensures
    ∙ few_forms (λ n. leb n 255) (row_in_range c.args.limits) row_form_of c.elements.result.now (view c.args.state.now) c.elements.ensures
    ∙ sym (ap (state_in_range c.args.limits) (state_list (view c.args.state.now) (sym c.is_whole.ensures ∙ c.if-is_whole.false)))
