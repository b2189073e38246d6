use Rattle.std.proofs.lemmas.Result.{on_ok_weaker}
use Rattle.text.proofs.TextLemmas.{then}
use Rattle.commands.proofs.sample.add_line.Goals as goal

pub returns : goal.returns
returns c =
    on_ok_weaker c.add_spent.result
    (λ last. then c.in_ok-word_number.ensures
    (then c.in_ok-word.ensures (then c.in_ok-add_bounds.ensures (then c.in_ok-word-2.ensures (then c.in_ok-outcome.ensures (then c.in_ok-word-3.ensures last))))))
    c.add_spent.ensures
