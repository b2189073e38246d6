use Rattle.std.proofs.Common.{◌≡◌, ℕ, ◌+◌, ◌*◌, length, List, ap, ◌∙◌}
use Rattle.sim_game.specs.declared.Side.TheVariants.{One, Two}
use Rattle.bounds_board.proofs.PlainLemmas.{opening_returned}
use Rattle.shared_board.specs.Words.{IsBlank, opening_word, word_of}
use Rattle.shared_board.proofs.RuleLemmas.{starts}
use Rattle.shared_board.proofs.PassLemmas.{pass_first}
use Rattle.shared_board.proofs.board.Board.create.Goals as goal

pub of_words-requires : goal.of_words-requires
of_words-requires g c = let m = g.G.Game.model c.args.game in let game = g.met.G.Game.lawful c.args.game in
    let low : c.word_of_bound-low.result ≡ opening_word m One = c.word_of_bound-low.ensures.word
    ∙ ap word_of (opening_returned m One c.opening_bound.result game c.opening_bound.ensures) in
    let high : c.word_of_bound-high.result ≡ opening_word m Two = c.word_of_bound-high.ensures.word
    ∙ ap word_of (opening_returned m Two c.opening_bound-2.result game c.opening_bound-2.ensures) in
    let blank : IsBlank c.as_slice.result.now c.args.rows (opening_word m One) (opening_word m Two) = rw c.as_slice.ensures.value (rw (← low, ← high) c.in_ok-opening.ensures) in
    starts m c.args.game c.args.rows c.as_slice.result.now blank

pub invariant_of-result : goal.invariant_of-result
invariant_of-result g c = let made = c.in_ok-words.ensures in
    let words : c.in_ok-words.seat.table_id.words ≡ 3 * c.args.rows + 1 = ap (λ z. z.words) made.2
    ∙ (made.0 ∙ (ap (λ (ws : List ℕ). length ws) c.as_slice.ensures.value ∙ c.in_ok-opening.ensures.wide)) in
    pass_first g.G.Game.model c.args.game c.args.rows c.in_ok-words.seat.table_id.words c.new.result.total c.new.result.entries c.in_ok-words.seat.me words made.4
    c.new.ensures.entries
