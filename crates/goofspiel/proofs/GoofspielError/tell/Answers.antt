use Rattle.std.proofs.lemmas.Result.{on_ok_weaker}
use Rattle.text.proofs.TextLemmas.{then}
use Rattle.goofspiel.proofs.GoofspielError.tell.Goals as goal

pub returns-in_ok-word_side-in-CardRange : goal.returns-in_ok-word_side-in-CardRange
returns-in_ok-word_side-in-CardRange c = rw c.in-CardRange.is (on_ok_weaker c.next.result (λ added. then c.in_ok-word_side-in-CardRange.ensures added) c.next.ensures)

pub returns-in_ok-word_side-in-CardTwice : goal.returns-in_ok-word_side-in-CardTwice
returns-in_ok-word_side-in-CardTwice c = rw c.in-CardTwice.is (on_ok_weaker c.next-in-CardTwice.result (λ added. then c.in_ok-word_side-in-CardTwice.ensures added) c.next-in-CardTwice.ensures)
