use Rattle.certificate.specs.Texts.{report_text}
use Rattle.commands.specs.Runs.{status_of, IsSolved}
use Rattle.commands.specs.Texts.{input_text}
use Rattle.commands.proofs.RunLemmas.{answers_where, fails_unless}
use Rattle.commands.proofs.solve.solved.Goals as goal

pub returns-in-Ok : goal.returns-in-Ok
returns-in-Ok g c =
    let r = c.in-Ok.report in let found = c.in-Ok.ensures.found in
    answers_where (IsSolved c.args.may_stop c.args.bytes.now) _ (status_of r.outcome) (report_text r) c.reported.result
    (λ again. IsSolved.reported found.task r found.is_task found.asked found.solution again) c.reported.ensures

pub returns-in-Err : goal.returns-in-Err
returns-in-Err g c =
    answers_where (IsSolved c.args.may_stop c.args.bytes.now) _ 2 (input_text c.in-Err.error) c.refused.result
    (λ memory. IsSolved.refused c.in-Err.error (fails_unless _ c.in-Err.error c.in-Err.ensures.fault memory)) c.refused.ensures
