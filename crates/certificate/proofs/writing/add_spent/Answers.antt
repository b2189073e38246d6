use Rattle.std.proofs.Common.{codes, decimal}
use Rattle.std.proofs.lemmas.Result.{on_ok_weaker}
use Rattle.text.proofs.TextLemmas.{then, as_text, line_text-numbers}
use Rattle.certificate.proofs.writing.add_spent.Goals as goal

pub returns : goal.returns
returns c = on_ok_weaker c.word-2.result (λ added. as_text (line_text-numbers decimal (codes "spent") c.args.spent.now) (then c.in_ok-word.ensures (then c.in_ok-each.ensures added))) c.word-2.ensures
