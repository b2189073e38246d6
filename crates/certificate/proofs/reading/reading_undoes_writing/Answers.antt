use Rattle.certificate.proofs.ReportLaws.{read_again, read_takes}
use Rattle.certificate.proofs.reading.reading_undoes_writing.Goals as goal

pub returns-clause-again : goal.returns-clause-again
returns-clause-again c = read_again

pub returns-clause-only : goal.returns-clause-only
returns-clause-only c = read_takes
