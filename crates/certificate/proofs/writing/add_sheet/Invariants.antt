use Rattle.std.proofs.Common.{map, take}
use Rattle.text.specs.Texts.{Adds, text_of}
use Rattle.certificate.specs.Texts.{row_fields}
use Rattle.certificate.proofs.writing.add_sheet.Given as goal

abbrev pub invariant-loop-row : goal.invariant-loop-row
invariant-loop-row l = Adds l.initial.text l.text (text_of (map row_fields (take l.row-index l.rows)))
