use Rattle.std.proofs.Common.{refl, subst}
use Rattle.std.specs.Io.KnownBytes.{Appends}
use Rattle.devices.specs.Taken.{AppendsFront}
use Rattle.commands.specs.Runs.{IsWritten}
use Rattle.commands.proofs.run.respond.Goals as goal

pub returns-in-Ok-write_all : goal.returns-in-Ok-write_all
returns-in-Ok-write_all g c = IsWritten.whole c.in-Ok.answer c.in-Ok.is (subst (Appends _ _) c.as_slice.ensures c.in-Ok-write_all.ensures.ok)

pub returns-in-Ok : goal.returns-in-Ok
returns-in-Ok g c = IsWritten.part c.in-Ok.answer c.in-Ok.is (subst (AppendsFront _ _) c.as_slice.ensures c.in-Err-write_all.ensures.err) c.in-Err-write_all.ensures.cause.failed

pub returns : goal.returns
returns g c = IsWritten.nothing c.in-Err.field-0 c.in-Err.is refl
