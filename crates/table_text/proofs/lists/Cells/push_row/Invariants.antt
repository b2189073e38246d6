use Rattle.std.proofs.Common.{[], ◌∷◌, take}
use Rattle.std.specs.List.{flat_map}
use Rattle.serde_json.specs.View.{view}
use Rattle.table_text.specs.States.{cell_form_of, AddsCells}
use Rattle.table_text.proofs.lists.Cells.push_row.Given as goal

abbrev pub invariant-loop-cell : goal.invariant-loop-cell
invariant-loop-cell l = AddsCells l.initial.self l.self (flat_map (λ v. cell_form_of (view v) ∷ []) (take l.cell-index l.cells))
