use Rattle.std.proofs.Common.{◌≡◌, drop}
use Rattle.fields.specs.Positions.{kinds_in}
use Rattle.certificate.specs.Positions.{have_form}
use Rattle.certificate.proofs.positions.have_form.Given as goal

abbrev pub invariant-loop-row : goal.invariant-loop-row
invariant-loop-row l = have_form (kinds_in (drop l.row-index l.rows)) l.fields ≡ have_form (kinds_in l.rows) l.initial.fields
