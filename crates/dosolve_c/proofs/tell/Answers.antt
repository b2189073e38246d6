use Rattle.std.proofs.Common.{◌≡◌, refl, subst}
use Rattle.dosolve_c.specs.Calls.{IsToldInMemory, put_over}
use Rattle.dosolve_c.proofs.tell.Goals as goal

pub returns-in-Ok : goal.returns-in-Ok
returns-in-Ok c =
    IsToldInMemory.answered c.in-Ok.answer.status c.in-Ok.answer.text c.in-Ok.ensures
    (subst (λ t. c.put.new.output ≡ put_over t c.args.output.now) c.as_slice.ensures c.put.ensures) c.len.ensures

pub returns-in-Err : goal.returns-in-Err
returns-in-Err c = IsToldInMemory.no_memory refl refl
