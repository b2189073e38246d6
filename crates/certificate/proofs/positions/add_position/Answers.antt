use Rattle.std.proofs.lemmas.Result.{on_ok_weaker}
use Rattle.text.proofs.TextLemmas.{then, as_text}
use Rattle.fields.specs.Positions.{game_word, kind_of}
use Rattle.certificate.proofs.PositionLaws.{line_written}
use Rattle.certificate.proofs.positions.add_position.Goals as goal

pub returns : goal.returns
returns c =
    let position = c.args.position.now in
    let word = rw (c.word-2.ensures, c.game.ensures) at c.in_ok-word-2.ensures in
    let values = rw c.as_slice.ensures.value at c.in_ok-add_values.ensures in
    let line = line_written (game_word (kind_of position)) c.in_ok-values.values.items position c.in_ok-values.ensures in
    on_ok_weaker c.word-4.result (λ added. as_text line (then c.in_ok-word.ensures (then word (then values added)))) c.word-4.ensures
