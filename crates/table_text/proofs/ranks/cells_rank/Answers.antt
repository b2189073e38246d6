use Rattle.std.proofs.Common.{◌≡◌, ℕ, ◌∙◌, max, map, rules}
use Rattle.std.specs.List.{fold}
use Rattle.serde_json.specs.View.{view}
use Rattle.serde_json.specs.declared.value.Value.{Value}
use Rattle.table.specs.Nested.{greatest_in, named_by}
use Rattle.table_text.specs.States.{rank_in, cell_form_of}
use Rattle.table_text.proofs.StateRanks.{greatest_cell}
use Rattle.table_text.proofs.ranks.cells_rank.Goals as goal

pub returns : goal.returns
returns c =
    let folded : c.fold.result ≡ fold (λ (n : ℕ) (v : Value). max n (greatest_in (map (rank_in c.args.ranks.now) (named_by (cell_form_of (view v)))))) 0 c.args.cells.now = search rules in
    folded ∙ greatest_cell c.args.ranks.now c.args.cells.now
