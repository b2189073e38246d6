use Rattle.std.proofs.Common.{rules, ◌≡◌, ◌<◌, ◌≤◌, length, sym, subst, ◌∙◌, arith}
use Rattle.induction.specs.Places.{PlaceWords, place_word}
use Rattle.induction.proofs.PlaceLemmas.{behind_word, no_word}
use Rattle.induction.proofs.places.PlaceTable.other_word.Goals as goal

pub returns-in-Some : goal.returns-in-Some
returns-in-Some c =
    let w : PlaceWords = record { listed = c.self.inside.listed.items; keys = c.self.inside.keys; words = c.self.inside.words.items } in
    let behind : length w.listed ≤ c.args.place = subst (λ (v : PlaceWords). length v.listed ≤ c.args.place) (sym c.self.view_is) c.requires in
    let long : c.len.result ≡ length c.self.inside.words.items = search rules in
    let few : c.in-Some.number < length w.words = omega (arith, long, c.if-number-len.true) in
    subst (λ (v : PlaceWords). c.index.result.now ≡ place_word v c.args.place) c.self.view_is
    (behind_word w c.args.place c.in-Some.number c.index.result.now behind (sym c.place.ensures ∙ c.in-Some.is) few c.index.ensures)

pub returns-in_default-2 : goal.returns-in_default-2
returns-in_default-2 c =
    let w : PlaceWords = record { listed = c.self.inside.listed.items; keys = c.self.inside.keys; words = c.self.inside.words.items } in
    let behind : length w.listed ≤ c.args.place = subst (λ (v : PlaceWords). length v.listed ≤ c.args.place) (sym c.self.view_is) c.requires in
    subst (λ (v : PlaceWords). 0 ≡ place_word v c.args.place) c.self.view_is (no_word w c.args.place behind (sym c.place.ensures ∙ c.in_default.is))
