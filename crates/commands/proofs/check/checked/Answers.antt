use Rattle.std.proofs.lemmas.Result.{IfOk-weaker}
use Rattle.commands.specs.Reports.{fault_text}
use Rattle.commands.specs.Checks.{IsChecked}
use Rattle.commands.proofs.RunLemmas.{answers_where}
use Rattle.commands.proofs.check.checked.Goals as goal

pub returns-in-Ok : goal.returns-in-Ok
returns-in-Ok c =
    let bytes = c.args.bytes.now in
    IfOk-weaker c.judged.result _ (λ a. IsChecked bytes a.status a.text) (λ a says. says bytes c.in-Ok.ensures.0) c.judged.ensures

pub returns-in-Err : goal.returns-in-Err
returns-in-Err c =
    let bytes = c.args.bytes.now in
    answers_where (IsChecked bytes) _ 9 (fault_text c.in-Err.fault) c.faulty.result (λ memory. IsChecked.unread _ (c.in-Err.ensures memory)) c.faulty.ensures
