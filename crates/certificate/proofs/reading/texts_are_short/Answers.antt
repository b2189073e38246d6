use Rattle.certificate.proofs.LengthLemmas.{report_by_rows, report_short}
use Rattle.certificate.proofs.reading.texts_are_short.Goals as goal

pub returns-clause-by_rows : goal.returns-clause-by_rows
returns-clause-by_rows c = report_by_rows

pub returns-clause-narrow : goal.returns-clause-narrow
returns-clause-narrow c = report_short
