use Rattle.std.proofs.lemmas.Result.{on_ok_weaker}
use Rattle.text.proofs.TextLemmas.{then}
use Rattle.commands.proofs.bounds.add_end.Goals as goal

pub returns-in_ok-word_side-in-Cut : goal.returns-in_ok-word_side-in-Cut
returns-in_ok-word_side-in-Cut c = rw c.in-Cut.is (on_ok_weaker c.word-in-Cut.result (λ last. then c.in_ok-word_side-in-Cut.ensures last) c.word-in-Cut.ensures)

pub returns-in-Full : goal.returns-in-Full
returns-in-Full c = rw c.in-Full.is c.word-in-Full.ensures
