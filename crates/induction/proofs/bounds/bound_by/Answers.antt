use Rattle.std.proofs.Common.{rules, ◌≡◌, ◌≢◌, ◌≤◌, pos, w64, SFits, sym, ap, ◌∙◌, arith}
use Rattle.std.proofs.lemmas.Int.{to_z-of_z}
use Rattle.induction.specs.Places.{place_word}
use Rattle.induction.proofs.BoundLemmas.{word_within, bound_by_word, end_by_word, state_by_word}
use Rattle.induction.proofs.bounds.bound_by.Goals as goal

pub bound_in-requires : goal.bound_in-requires
bound_in-requires g c =
    let word : c.word-word.result ≡ place_word c.args.bounds.now ((g.G.Game.numbering c.args.g).place c.args.s) = c.word-word.ensures ∙ ap (place_word c.args.bounds.now) c.place.ensures in
    rw word (word_within (g.G.Game.model c.args.g) (g.met.G.Game.lawful c.args.g) c.args._rows.now (g.G.Game.numbering c.args.g).place (place_word c.args.bounds.now) c.requires.placed
    c.args.s c.requires.reachable)

pub returns-then-word-ne0 : goal.returns-then-word-ne0
returns-then-word-ne0 g c =
    let word : c.word-word.result ≡ place_word c.args.bounds.now ((g.G.Game.numbering c.args.g).place c.args.s) = c.word-word.ensures ∙ ap (place_word c.args.bounds.now) c.place.ensures in
    let fits : SFits w64 c.bound_in.result = search rules in
    let some : 1 ≤ c.word-word.result = omega arith in
    rw (to_z-of_z w64 c.bound_in.result fits)
    (bound_by_word (g.G.Game.model c.args.g) (g.met.G.Game.lawful c.args.g) c.args._rows.now (g.G.Game.numbering c.args.g).place (place_word c.args.bounds.now) c.requires.placed
    c.args.s c.requires.reachable c.args.side c.bound_in.result (rw word at some) (c.bound_in.ensures ∙ ap pos word))

pub returns-then-rank-eq0 : goal.returns-then-rank-eq0
returns-then-rank-eq0 g c =
    let word : c.word-word.result ≡ place_word c.args.bounds.now ((g.G.Game.numbering c.args.g).place c.args.s) = c.word-word.ensures ∙ ap (place_word c.args.bounds.now) c.place.ensures in
    let fits : SFits w64 c.end_bound.result = search rules in
    let none : c.word-word.result ≡ 0 = omega arith in
    let stop : c.rank.result ≡ 0 = omega arith in
    rw (to_z-of_z w64 c.end_bound.result fits, c.end_bound.ensures)
    (end_by_word (g.G.Game.model c.args.g) (g.met.G.Game.lawful c.args.g) c.args._rows.now (g.G.Game.numbering c.args.g).place (place_word c.args.bounds.now) c.requires.placed
    c.args.s c.requires.reachable c.args.side (sym word ∙ none) (sym c.rank.ensures ∙ stop))

pub returns-else-rank-eq0 : goal.returns-else-rank-eq0
returns-else-rank-eq0 g c =
    let m = g.G.Game.model c.args.g in
    let word : c.word-word.result ≡ place_word c.args.bounds.now ((g.G.Game.numbering c.args.g).place c.args.s) = c.word-word.ensures ∙ ap (place_word c.args.bounds.now) c.place.ensures in
    let fits : SFits w64 c.state_bound.result = search rules in
    let none : c.word-word.result ≡ 0 = omega arith in
    let on : m.rank c.args.s ≢ 0 = λ e. absurd (let is = c.rank.ensures ∙ e in omega (arith, is)) in
    rw (to_z-of_z w64 c.state_bound.result fits, c.state_bound.ensures)
    (state_by_word m (g.met.G.Game.lawful c.args.g) c.args._rows.now (g.G.Game.numbering c.args.g).place (place_word c.args.bounds.now) c.requires.placed
    c.args.s c.requires.reachable c.args.side (sym word ∙ none) on)
