use Rattle.std.proofs.Common.{◌≡◌, ℕ, ◌+◌, Bool, List, length, [], None, Some, Err, IfOk, inl, inr, refl, sym, ap, subst, ◌∙◌, arith}
use Rattle.commands.specs.declared.words.Command.TheVariants.{Reading, Sample}
use Rattle.commands.specs.Runs.{IsAnswer, IsRun, limit_of}
use Rattle.commands.proofs.RunLemmas.{run_of}
use Rattle.commands.proofs.run.run.Goals as goal

pub returns-in-None : goal.returns-in-None
returns-in-None g c = rw (sym c.command_of.ensures.is ∙ c.in-None.is)
    (run_of c.args.may_stop None _ _ _ _ [] c.usage.result c.respond.result refl refl
    (λ a e. subst (λ f. IfOk f (λ a. IsAnswer c.args.may_stop None [] a.status a.text)) e c.usage.ensures) c.respond.ensures)

pub returns-in-Some-Sample : goal.returns-in-Some-Sample
returns-in-Some-Sample g c =
    let number = c.in-Some-Sample.number in
    rw (sym c.command_of.ensures.is ∙ c.in-Some-Sample.is ∙ ap Some c.in-Some-Sample.field-0-is)
    (run_of c.args.may_stop (Some (Sample number)) _ _ _ _ [] c.sampled.result c.respond-in-Some-Sample.result refl refl
    (λ a e. subst (λ f. IfOk f (λ a. IsAnswer c.args.may_stop (Some (Sample number)) [] a.status a.text)) e c.sampled.ensures) c.respond-in-Some-Sample.ensures)

pub returns-in-Ok : goal.returns-in-Ok
returns-in-Ok g c =
    let command = c.in-Some-Reading.command in
    let bytes = c.in-Ok.bytes.items in
    let within = c.in-Ok.ensures.within in
    let calm = c.in-Ok.ensures.calm (λ e. absurd (cc)) in
    rw (sym c.command_of.ensures.is ∙ c.in-Some-Reading.is ∙ ap Some c.in-Some-Reading.field-0-is)
    (run_of c.args.may_stop (Some (Reading command)) _ _ _ _ bytes c.answer_to.result c.respond-in-Ok.result
    (record { taken = c.in-Ok.ensures.ok.0; whole = inl (within, c.in-Ok.ensures.ok.1); calm = calm }) ((bytes, c.in-Ok.ensures.ok.0, omega (arith, within)), calm)
    (λ a e. subst (λ f. IfOk f (λ a. IsAnswer c.args.may_stop (Some (Reading command)) bytes a.status a.text)) e (rw c.deref.ensures.value at c.answer_to.ensures)) c.respond-in-Ok.ensures)

pub returns-in-Err-TooLong : goal.returns-in-Err-TooLong
returns-in-Err-TooLong g c =
    let command = c.in-Some-Reading.command in
    let long = c.in-Err-TooLong.ensures.too_long (ap Err c.in-Err-TooLong.field-0-is) in
    let bytes = long.0 in
    let calm = c.in-Err-TooLong.ensures.calm (λ e. cc (e, c.in-Err-TooLong.field-0-is)) in
    rw (sym c.command_of.ensures.is ∙ c.in-Some-Reading.is ∙ ap Some c.in-Some-Reading.field-0-is)
    (run_of c.args.may_stop (Some (Reading command)) _ _ _ _ bytes c.too_long.result c.respond-in-Err-TooLong.result
    (record { taken = long.1; whole = inr long.2; calm = calm }) ((bytes, long.1, omega (arith, long.2)), calm)
    (λ a e. subst (λ f. IfOk f (λ a. (may_stop : Bool) (bytes : List ℕ) → length bytes ≡ limit_of command bytes + 1
    → IsAnswer may_stop (Some (Reading command)) bytes a.status a.text)) e c.too_long.ensures
    c.args.may_stop bytes long.2)
    c.respond-in-Err-TooLong.ensures)

pub returns-in-Err-Failed : goal.returns-in-Err-Failed
returns-in-Err-Failed g c =
    IsRun.unread c.in-Some-Reading.command (sym c.command_of.ensures.is ∙ c.in-Some-Reading.is ∙ ap Some c.in-Some-Reading.field-0-is)
    (c.in-Err-Failed.ensures.others (λ e. cc (e, c.in-Err-Failed.field-0-is))) (c.in-Err-Failed.ensures.failed (ap Err c.in-Err-Failed.field-0-is)) refl

pub returns-in-Err-NoMemory : goal.returns-in-Err-NoMemory
returns-in-Err-NoMemory g c =
    let part = c.in-Err-NoMemory.ensures.others (λ e. cc (e, c.in-Err-NoMemory.field-0-is)) in
    rw (sym c.command_of.ensures.is ∙ c.in-Some-Reading.is ∙ ap Some c.in-Some-Reading.field-0-is)
    (IsRun.no_memory ((part.0, part.1, omega (arith, part.2)), c.in-Err-NoMemory.ensures.calm (λ e. cc (e, c.in-Err-NoMemory.field-0-is))) refl)
