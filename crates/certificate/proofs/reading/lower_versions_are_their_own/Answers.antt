use Rattle.certificate.proofs.ReportLaws.{read_below}
use Rattle.certificate.proofs.reading.lower_versions_are_their_own.Goals as goal

pub returns : goal.returns
returns c = read_below
