use Rattle.std.proofs.Common.{◌≡◌, ◌-◌, None}
use Rattle.certificate.specs.Reading.{rows}
use Rattle.certificate.proofs.RowLemmas.{behind}
use Rattle.certificate.proofs.lines.Lines.rows.Given as goal

abbrev pub invariant-loop-i : goal.invariant-loop-i
invariant-loop-i l = behind l.rows.items (rows l.limits (l.count - l._i) l.last l.self) ≡ rows l.limits l.count None l.initial.self
