use Rattle.std.proofs.Common.{◌∙◌, ap, sym, Bool, cond}
use Rattle.table_text.proofs.StateLists.{columns_first}
use Rattle.table_text.proofs.lists.columns.Goals as goal

pub returns-then-are_long : goal.returns-then-are_long
returns-then-are_long c =
    sym (ap (λ (b : Bool). cond b c.row_length-columns.result 0) c.if-are_long.true)
    ∙ columns_first c.args.rows.now c.first-item.result c.row_length-columns.result c.are_long.result c.in-len1-up.len_at_least c.first-item.is c.row_length-columns.ensures c.are_long.ensures

pub returns-else-are_long : goal.returns-else-are_long
returns-else-are_long c =
    sym (ap (λ (b : Bool). cond b c.row_length-columns.result 0) c.if-are_long.false)
    ∙ columns_first c.args.rows.now c.first-item.result c.row_length-columns.result c.are_long.result c.in-len1-up.len_at_least c.first-item.is c.row_length-columns.ensures c.are_long.ensures
