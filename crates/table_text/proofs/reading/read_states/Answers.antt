use Rattle.std.proofs.Common.{List, ◌∙◌, ap, map, sym, subst}
use Rattle.serde_json.specs.View.{view}
use Rattle.serde_json.specs.declared.value.Value.{Value}
use Rattle.table.specs.Nested.{StateForm, are_in_range, lists_of_states}
use Rattle.table.proofs.RangeLemmas.{forms_wider}
use Rattle.fields.specs.declared.positions.PositionText.{PositionText}
use Rattle.fields.specs.Ranges.{IsPositionInRange}
use Rattle.table_text.specs.States.{state_form_of, table_text_of}
use Rattle.table_text.proofs.StateLists.{forms_are}
use Rattle.table_text.proofs.StateTexts.{text_in_range, wrong_kind, wrong_range, right}
use Rattle.table_text.proofs.reading.read_states.Goals as goal

pub returns-then-not-are_state_kinds-clause-exact : goal.returns-then-not-are_state_kinds-clause-exact
returns-then-not-are_state_kinds-clause-exact c =
    wrong_kind c.args.limits (view c.args.value.now) (sym c.are_state_kinds.ensures ∙ c.if-not-are_state_kinds.true)

pub returns-then-not-are_in_range-clause-exact : goal.returns-then-not-are_in_range-clause-exact
returns-then-not-are_in_range-clause-exact c =
    let forms = forms_are state_form_of c.elements-states.result.now (view c.args.value.now) c.elements-states.ensures in
    wrong_range c.args.limits (view c.args.value.now) (sym c.are_state_kinds.ensures ∙ c.if-not-are_state_kinds.false)
    (sym (ap (are_in_range c.args.limits) forms) ∙ sym c.are_in_range.ensures ∙ c.if-not-are_in_range.true)

pub returns-clause-exact : goal.returns-clause-exact
returns-clause-exact c =
    let forms = forms_are state_form_of c.elements-states.result.now (view c.args.value.now) c.elements-states.ensures in
    let text = c.in_ok-text_of_states.ensures.exact ∙ ap (λ (forms : List StateForm). table_text_of (lists_of_states forms)) forms in
    rw (text)
    (right c.args.limits (view c.args.value.now) (sym c.are_state_kinds.ensures ∙ c.if-not-are_state_kinds.false)
    (sym (ap (are_in_range c.args.limits) forms) ∙ sym c.are_in_range.ensures ∙ c.if-not-are_in_range.false))

pub returns-clause-in_range : goal.returns-clause-in_range
returns-clause-in_range c =
    subst (λ (text : PositionText). IsPositionInRange text) (sym c.in_ok-text_of_states.ensures.exact)
    (text_in_range c.args.limits _ (sym c.are_in_range.ensures ∙ c.if-not-are_in_range.false))

pub text_of_states-requires : goal.text_of_states-requires
text_of_states-requires c = forms_wider c.args.limits (map (λ (v : Value). state_form_of (view v)) c.elements-states.result.now) (sym c.are_in_range.ensures ∙ c.if-not-are_in_range.false)
