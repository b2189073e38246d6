use Rattle.std.proofs.Common.{rules, ◌≡◌, ◌<◌, ◌≤◌, length, set, refl, sym, subst, arith}
use Rattle.induction.specs.Places.{PlaceWords, place_word}
use Rattle.induction.proofs.PlaceLemmas.{listed_more, new_key, word_more, words_more, IsOneMore}
use Rattle.induction.proofs.places.PlaceTable.put.Goals as goal

pub returns-then-place-len : goal.returns-then-place-len
returns-then-place-len c =
    let w : PlaceWords = record { listed = c.self.inside.listed.items; keys = c.self.inside.keys; words = c.self.inside.words.items } in
    let long : c.len.result ≡ length c.self.inside.listed.items = search rules in
    let less : c.args.place < length w.listed = omega (arith, long, c.if-place-len.true) in
    let v : PlaceWords = record { listed = set w.listed c.args.place c.args.word; keys = w.keys; words = w.words } in
    subst (λ (u : PlaceWords). IsOneMore u v c.args.place c.args.word) c.self.view_is (listed_more w v c.args.place c.args.word less refl refl refl)

pub add_word-requires : goal.add_word-requires
add_word-requires c =
    let w : PlaceWords = record { listed = c.self.inside.listed.items; keys = c.self.inside.keys; words = c.self.inside.words.items } in
    let long : c.len.result ≡ length c.self.inside.listed.items = search rules in
    let behind : length w.listed ≤ c.args.place = omega (arith, long, c.if-place-len.false) in
    new_key w w c.args.place c.args.word c.self.invariant behind (subst (λ (v : PlaceWords). place_word v c.args.place ≡ 0) (sym c.self.view_is) c.requires.new)

pub invariant_of-self-in-Ok : goal.invariant_of-self-in-Ok
invariant_of-self-in-Ok c =
    let done = c.in-Ok.ensures in
    rw done.words (words_more c.self.inside.keys c.add_word.new.keys c.self.inside.words.items c.args.word c.self.invariant
    done.more c.requires.some)

pub returns-in-Ok : goal.returns-in-Ok
returns-in-Ok c =
    let w : PlaceWords = record { listed = c.self.inside.listed.items; keys = c.self.inside.keys; words = c.self.inside.words.items } in
    let v : PlaceWords = record { listed = c.self.inside.listed.items; keys = c.add_word.new.keys; words = c.add_word.new.words.items } in
    let long : c.len.result ≡ length c.self.inside.listed.items = search rules in
    let behind : length w.listed ≤ c.args.place = omega (arith, long, c.if-place-len.false) in
    let done = c.in-Ok.ensures in
    subst (λ (u : PlaceWords). IsOneMore u v c.args.place c.args.word) c.self.view_is
    (word_more w v c.args.place c.args.word c.self.invariant behind refl done.places done.words)
