use Rattle.std.proofs.Common.{rules, ◌≡◌, Err}
use Rattle.induction.proofs.listed.list_states.Goals as goal

pub returns-in_err-add-clause-err : goal.returns-in_err-add-clause-err
returns-in_err-add-clause-err g c =
    let stopped : c.from_residual.result ≡ Err c.in_err-add.field-0.0 = search rules in
    rw stopped (λ b. c.in_err-add.ensures.err b)

pub returns-in_err-add_next-clause-err : goal.returns-in_err-add_next-clause-err
returns-in_err-add_next-clause-err g c =
    let stopped : c.from_residual-in_err-add_next.result ≡ Err c.in_err-add_next.field-0.0 = search rules in
    rw stopped (λ b. c.in_err-add_next.ensures.err b)
