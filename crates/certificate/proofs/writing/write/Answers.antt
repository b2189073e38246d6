use Rattle.std.proofs.Common.{◌≡◌, ap, ◌∙◌, rules}
use Rattle.certificate.specs.Texts.{report_text}
use Rattle.certificate.specs.Reading.{read_report}
use Rattle.certificate.proofs.ReportLaws.{read_again}
use Rattle.certificate.proofs.writing.write.Goals as goal

pub returns-clause-again : goal.returns-clause-again
returns-clause-again c =
    let is : c.into_bytes.result.items ≡ report_text c.args.r.now = search rules in
    ap read_report is ∙ read_again c.args.r.now c.requires
