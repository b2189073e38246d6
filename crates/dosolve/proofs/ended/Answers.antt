use Rattle.std.proofs.Common.{refl}
use Rattle.commands.specs.Runs.{IsRun}
use Rattle.dosolve.proofs.ended.Goals as goal

-- words that want of memory kept from being read: nothing was taken or written
pub returns-in-Err-clause-unread : goal.returns-in-Err-clause-unread
returns-in-Err-clause-unread g c = rw (c.in-Err.is, c.from-in-Err.ensures) (IsRun.no_memory refl refl)
