use Rattle.std.proofs.Common.{◌≡◌, ℕ, ◌∙◌, max, map, rules}
use Rattle.std.specs.List.{fold, flat_map}
use Rattle.serde_json.specs.View.{view}
use Rattle.serde_json.specs.declared.value.Value.{Value}
use Rattle.table.specs.Nested.{greatest_in, named_by}
use Rattle.table_text.specs.States.{rank_in, row_form_of}
use Rattle.table_text.proofs.StateRanks.{greatest_row}
use Rattle.table_text.proofs.ranks.rows_rank.Goals as goal

pub returns : goal.returns
returns c =
    let folded : c.fold.result ≡ fold (λ (n : ℕ) (v : Value). max n (greatest_in (map (rank_in c.args.ranks.now) (flat_map named_by (row_form_of (view v)))))) 0 c.args.rows.now = search rules in
    folded ∙ greatest_row c.args.ranks.now c.args.rows.now
