use Rattle.std.proofs.Common.{rules, ◌≡◌, Ok, None}
use Rattle.certificate.specs.Reading.{named_report}
use Rattle.certificate.specs.Versions.{limits_of, version_of}
use Rattle.position.specs.Games.{fault_of}
use Rattle.commands.proofs.CheckLemmas.{report_built}
use Rattle.commands.proofs.check.report_in.Goals as goal

pub returns : goal.returns
returns c =
    let r = c.in-Ok.named.report in
    let v = c.in-Ok.named.version in
    let is : named_report c.args.bytes.now ≡ Ok (v, r) = search rules in
    let limits : c.limits_of.result ≡ limits_of v = search rules in
    let none : fault_of c.limits_of.result r.position ≡ None = search rules in
    let at : fault_of (limits_of v) r.position ≡ None = rw (← limits) none in
    let own : version_of r ≡ v = search rules in
    (report_built c.args.bytes.now c.requires v r is at own, search rules)
