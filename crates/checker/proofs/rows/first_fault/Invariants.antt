use Rattle.std.proofs.Common.{take}
use Rattle.std.specs.List.{All}
use Rattle.plan_book.specs.Sheets.{IsLawfulRow}
use Rattle.checker.proofs.rows.first_fault.Given as goal

abbrev pub invariant-loop-place : goal.invariant-loop-place
invariant-loop-place g l = All (IsLawfulRow (g.G.Game.model l.fn.g) l.fn.sheet.side l.fn.sheet.total l.fn.sheet.rows) (take l.place l.fn.sheet.rows)
