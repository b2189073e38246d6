use Rattle.std.proofs.Common.{rules, ◌≡◌, ◌<◌, length, subst, arith}
use Rattle.induction.specs.Places.{PlaceWords, place_word}
use Rattle.induction.proofs.PlaceLemmas.{listed_word}
use Rattle.induction.proofs.places.PlaceTable.word.Goals as goal

pub returns-then-place-len : goal.returns-then-place-len
returns-then-place-len c =
    let w : PlaceWords = record { listed = c.self.inside.listed.items; keys = c.self.inside.keys; words = c.self.inside.words.items } in
    let long : c.len.result ≡ length c.self.inside.listed.items = search rules in
    let less : c.args.place < length w.listed = omega (arith, long, c.if-place-len.true) in
    subst (λ (v : PlaceWords). c.index.result.now ≡ place_word v c.args.place) c.self.view_is (listed_word w c.args.place c.index.result.now less c.index.ensures)
