use Rattle.std.proofs.Common.{[], ◌∷◌, refl, rules, w64, SFits, get_or, pos}
use Rattle.std.proofs.lemmas.Int.{to_z-of_z}
use Rattle.serde_json.specs.View.{view}
use Rattle.table.specs.Nested.{draw_told}
use Rattle.table_text.specs.States.{draw_form_of}
use Rattle.table_text.proofs.StateLists.{appends_then}
use Rattle.table_text.proofs.lists.DrawLists.push.Goals as goal

pub returns : goal.returns
returns c =
    let draw = draw_form_of (view c.args.draw.now) in
    let state : SFits w64 c.whole_at.result = search rules in
    let weight : SFits w64 c.whole_at-2.result = search rules in
    let reward : SFits w64 c.whole_at-3.result = search rules in
    let first = rw (to_z-of_z w64 c.whole_at.result state, c.whole_at.ensures) at c.in_ok-push_whole.ensures in
    let second = rw (to_z-of_z w64 c.whole_at-2.result weight, c.whole_at-2.ensures) at c.in_ok-push_whole-2.ensures in
    record {
      numbers = appends_then c.args.self.now.numbers.items c.push_whole.new.list.items c.push_whole-2.new.list.items (get_or draw 0 (pos 0) ∷ []) (get_or draw 1 (pos 0) ∷ [])
          (draw_told draw) first second refl;
      rewards = rw (to_z-of_z w64 c.whole_at-3.result reward, c.whole_at-3.ensures) at c.in_ok-push_whole-3.ensures;
      unpaid = c.are_unpaid-self.ensures;
    }
