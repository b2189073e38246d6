use Rattle.std.proofs.Common.{◌≡◌, drop}
use Rattle.fields.specs.Positions.{kinds_in}
use Rattle.certificate.specs.Positions.{values}
use Rattle.certificate.proofs.RowLemmas.{behind}
use Rattle.certificate.proofs.lines.Line.values.Given as goal

abbrev pub invariant-loop-row : goal.invariant-loop-row
invariant-loop-row l = behind l.values.items (values (kinds_in (drop l.row-index l.rows)) l.self) ≡ values (kinds_in l.rows) l.initial.self
