use Rattle.commands.proofs.LawLemmas.{reported_short}
use Rattle.commands.proofs.laws.printed_reports_are_accepted.Goals as goal

pub returns-clause-short : goal.returns-clause-short
returns-clause-short c = reported_short
