use Rattle.std.proofs.Common.{rules}
use Rattle.worked_rows.proofs.passes.two_threads_post_in_one_row.Goals as goal

pub join_pass-requires-2-clause-theirs : goal.join_pass-requires-2-clause-theirs
join_pass-requires-2-clause-theirs g c = search (rules, c.join_mut.ensures.1)
