use Rattle.std.proofs.Common.{sym, ◌∙◌}
use Rattle.certificate.proofs.ReportLaws.{named_own}
use Rattle.certificate.proofs.reading.read.Goals as goal

pub returns-clause-in_range : goal.returns-clause-in_range
returns-clause-in_range c =
    let named = c.in_ok-version.field-0 in
    (named_own c.args.text.now (named.version, named.report) c.in_ok-version.ensures.exact (sym c.version.ensures ∙ c.if-version.false)).1

pub returns-clause-text : goal.returns-clause-text
returns-clause-text c =
    let named = c.in_ok-version.field-0 in
    (named_own c.args.text.now (named.version, named.report) c.in_ok-version.ensures.exact (sym c.version.ensures ∙ c.if-version.false)).0
