use Rattle.std.proofs.Common.{take}
use Rattle.std.specs.List.{flat_map}
use Rattle.serde_json.specs.View.{view}
use Rattle.table_text.specs.States.{row_form_of, AddsCells}
use Rattle.table_text.proofs.lists.Cells.push_rows.Given as goal

abbrev pub invariant-loop-row : goal.invariant-loop-row
invariant-loop-row l = AddsCells l.initial.self l.self (flat_map (λ v. row_form_of (view v)) (take l.row-index l.rows))
