use Rattle.std.proofs.Common.{◌≡◌, ℕ, ◌+◌, ◌∙◌, min, rules}
use Rattle.std.specs.List.{fold}
use Rattle.serde_json.specs.View.{view}
use Rattle.serde_json.specs.declared.value.Value.{Value}
use Rattle.table.specs.Nested.{draw_count_of}
use Rattle.table_text.specs.States.{row_form_of}
use Rattle.table_text.proofs.StateCounts.{draws_in_rows}
use Rattle.table_text.proofs.ranges.draws_of_rows.Goals as goal

pub returns : goal.returns
returns c =
    let folded : c.fold.result ≡ fold (λ (n : ℕ) (v : Value). min (n + min (draw_count_of (row_form_of (view v))) 18446744073709551615) 18446744073709551615) 0 c.args.rows.now = search rules in
    folded ∙ draws_in_rows 18446744073709551615 c.args.rows.now
