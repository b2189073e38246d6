use Rattle.std.proofs.Common.{◌≡◌, Ok, rules}
use Rattle.certificate.specs.Reading.{named_report}
use Rattle.certificate.proofs.ReportLaws.{named_position, named_own}
use Rattle.certificate.proofs.reading.read_named.Goals as goal

pub returns-clause-position : goal.returns-clause-position
unfolding named_report
returns-clause-position c =
    let is : named_report c.args.text.now ≡ Ok (c.in_ok-version.version, c.in_ok-report.report) = search rules in
    named_position c.args.text.now (c.in_ok-version.version, c.in_ok-report.report) is

pub returns-clause-own : goal.returns-clause-own
unfolding named_report
returns-clause-own c version =
    let is : named_report c.args.text.now ≡ Ok (c.in_ok-version.version, c.in_ok-report.report) = search rules in
    (named_own c.args.text.now (c.in_ok-version.version, c.in_ok-report.report) is version).1
