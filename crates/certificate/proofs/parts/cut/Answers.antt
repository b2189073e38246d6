use Rattle.certificate.proofs.PartLemmas.{parts-whole, parts-cut}
use Rattle.certificate.proofs.parts.cut.Goals as goal

pub returns-in_err-i : goal.returns-in_err-i
returns-in_err-i c = rw c.from_residual.ensures (parts-whole c.args.at c.args.text.now c.in_err-i.ensures.exact)

pub returns : goal.returns
returns c = parts-cut c.args.at c.in_ok-i.i c.args.text.now c.split_at.result.0.now c.split_at.result.1.now c.in_ok-i.ensures.exact c.split_at.ensures.front c.split_at.ensures.back
