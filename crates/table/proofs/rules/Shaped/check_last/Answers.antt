use Rattle.std.proofs.Common.{not, ap, sym, None}
use Rattle.std.proofs.lemmas.Bool.{cond-false, cond-true}
use Rattle.table.specs.Below.{first_below}
use Rattle.table.specs.Faults.{total_fault_at}
use Rattle.table.specs.Lists.{has_rewards, state_count}
use Rattle.table.specs.Setting.{lists_of}
use Rattle.table.proofs.rules.Shaped.check_last.Goals as goal

pub returns-then-is_empty : goal.returns-then-is_empty
returns-then-is_empty c =
    let l = lists_of c.args.self.now.setting in
    cond-false (has_rewards l) (first_below (state_count l) (total_fault_at l)) None (ap not (sym c.if-is_empty.ensures))

pub returns-else-is_empty : goal.returns-else-is_empty
returns-else-is_empty c =
    let l = lists_of c.args.self.now.setting in
    rw (cond-true (has_rewards l) (first_below (state_count l) (total_fault_at l)) None (ap not (sym c.if-is_empty.ensures))) c.check_totals.ensures
