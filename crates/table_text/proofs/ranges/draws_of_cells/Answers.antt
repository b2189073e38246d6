use Rattle.std.proofs.Common.{◌≡◌, ℕ, ◌+◌, ◌∙◌, min, length, rules}
use Rattle.std.specs.List.{fold}
use Rattle.serde_json.specs.View.{view}
use Rattle.serde_json.specs.declared.value.Value.{Value}
use Rattle.table.specs.Nested.{draws_of_form}
use Rattle.table_text.specs.States.{cell_form_of}
use Rattle.table_text.proofs.StateCounts.{draws_in_cells}
use Rattle.table_text.proofs.ranges.draws_of_cells.Goals as goal

pub returns : goal.returns
returns c =
    let folded : c.fold.result ≡ fold (λ (n : ℕ) (v : Value). min (n + length (draws_of_form (cell_form_of (view v)))) 18446744073709551615) 0 c.args.cells.now = search rules in
    folded ∙ draws_in_cells 18446744073709551615 c.args.cells.now
