use Rattle.std.proofs.Common.{◌∙◌, ap, sym, Bool, ◌&&◌, rules, w64, SFits}
use Rattle.std.proofs.lemmas.Int.{to_z-of_z}
use Rattle.serde_json.specs.View.{view}
use Rattle.table_text.specs.States.{draw_form_of}
use Rattle.table_text.proofs.StateLists.{draw_is, draw_not}
use Rattle.table_text.proofs.ranges.draw_in_range.Goals as goal

pub returns-then-has_draw_length : goal.returns-then-has_draw_length
returns-then-has_draw_length c =
    let state : SFits w64 c.whole_at.result = search rules in
    let weight : SFits w64 c.whole_at-then-has_draw_length.result = search rules in
    let reward : SFits w64 c.whole_at-then-has_draw_length-2.result = search rules in
    let numbers = rw (
      to_z-of_z w64 c.whole_at.result state,
      to_z-of_z w64 c.whole_at-then-has_draw_length.result weight,
      to_z-of_z w64 c.whole_at-then-has_draw_length-2.result reward,
      c.whole_at.ensures,
      c.whole_at-then-has_draw_length.ensures,
      c.whole_at-then-has_draw_length-2.ensures,
    ) at c.are_draw_numbers.ensures in
    sym (ap (λ (b : Bool). b && c.are_draw_numbers.result) c.if-has_draw_length.true)
    ∙ draw_is c.args.limits (draw_form_of (view c.args.draw.now)) c.has_draw_length.result c.are_draw_numbers.result c.has_draw_length.ensures numbers

pub returns-else-has_draw_length : goal.returns-else-has_draw_length
returns-else-has_draw_length c = draw_not c.args.limits (draw_form_of (view c.args.draw.now)) c.has_draw_length.result c.has_draw_length.ensures c.if-has_draw_length.false
