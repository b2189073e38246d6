use Rattle.std.proofs.Common.{◌∙◌, ap, sym, Bool, ◌&&◌}
use Rattle.table_text.proofs.StateCounts.{in_range_is, in_range_not}
use Rattle.table_text.proofs.ranges.are_in_range.Goals as goal

pub returns-then-all_states : goal.returns-then-all_states
returns-then-all_states c =
    sym (ap (λ (b : Bool). b && c.are_few.result) c.if-all_states.true)
    ∙ in_range_is c.args.limits c.args.states.now c.all_states.result c.are_few.result c.all_states.ensures c.are_few.ensures

pub returns-else-all_states : goal.returns-else-all_states
returns-else-all_states c = in_range_not c.args.limits c.args.states.now c.all_states.result c.all_states.ensures c.if-all_states.false
