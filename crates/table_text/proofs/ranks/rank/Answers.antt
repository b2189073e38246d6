use Rattle.std.proofs.Common.{arith}
use Rattle.std.specs.List.{flat_map}
use Rattle.serde_json.specs.View.{view}
use Rattle.table.specs.declared.nested.TheConstants.{MOST_STATES}
use Rattle.table.specs.Nested.{named_by}
use Rattle.table_text.specs.States.{row_form_of, rank_in}
use Rattle.table_text.proofs.StateRanks.{greatest_low}
use Rattle.table_text.proofs.ranks.rank.Goals as goal

pub overflow_add-result : goal.overflow_add-result
overflow_add-result c =
    omega (arith, c.rows_rank.ensures, greatest_low MOST_STATES (rank_in c.args.ranks.now) (flat_map named_by (flat_map (λ v. row_form_of (view v)) c.kept_rows.result.now)) c.requires)

pub returns-else-is_whole-clause-low : goal.returns-else-is_whole-clause-low
returns-else-is_whole-clause-low c =
    omega (arith, c.rows_rank.ensures, greatest_low MOST_STATES (rank_in c.args.ranks.now) (flat_map named_by (flat_map (λ v. row_form_of (view v)) c.kept_rows.result.now)) c.requires)
