use Rattle.std.proofs.Common.{◌≡◌, ℕ, List, Ok, subst}
use Rattle.checker.specs.Verdicts.{IsVerdict}
use Rattle.position.specs.Games.{model_of}
use Rattle.commands.specs.declared.reports.ReportFault.TheVariants as faults
use Rattle.commands.specs.Reports.{accepted_text, fault_text}
use Rattle.commands.specs.Checks.{report_in, IsChecked}
use Rattle.commands.proofs.RunLemmas.{answers, answers_where}
use Rattle.commands.proofs.check.judged.Goals as goal

pub returns-in-Ok-Accepted : goal.returns-in-Ok-Accepted
returns-in-Ok-Accepted c =
    let r = c.args.report.now in let game = c.args.game in
    answers (λ status text. (bytes : List ℕ) → report_in bytes ≡ Ok r → IsChecked bytes status text) 0 (accepted_text r) c.accepted.result
    (λ bytes is. IsChecked.accepted r is (game, c.requires.built, subst (IsVerdict (model_of game) r) c.in-Ok-Accepted.field-0-is c.in-Ok-Accepted.ensures)) c.accepted.ensures

pub returns-in-Ok-Refused : goal.returns-in-Ok-Refused
returns-in-Ok-Refused c =
    let r = c.args.report.now in let game = c.args.game in let w = c.in-Ok-Refused.why in
    answers_where (λ status text. (bytes : List ℕ) → report_in bytes ≡ Ok r → IsChecked bytes status text) _ 9 (fault_text (faults.Refused w)) c.faulty.result
    (λ _ bytes is. IsChecked.refused r w is (game, c.requires.built, subst (IsVerdict (model_of game) r) c.in-Ok-Refused.field-0-is c.in-Ok-Refused.ensures)) c.faulty.ensures
