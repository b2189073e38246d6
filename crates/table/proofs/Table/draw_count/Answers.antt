use Rattle.std.proofs.Common.{arith}
use Rattle.table.specs.Setting.{lists_of}
use Rattle.table.proofs.DrawLemmas.{counted_more, weight_left}
use Rattle.table.proofs.Table.draw_count.Goals as goal

pub overflow_sub-left : goal.overflow_sub-left
overflow_sub-left c =
    let l = lists_of c.args.self.now.setting in
    let left = c.loop-left in
    omega (arith, weight_left l c.args.first left.count left.left left.invariant c.requires.0 c.requires.1 (omega arith), c.weight-left.ensures)

pub loop-left-preserved : goal.loop-left-preserved
loop-left-preserved c =
    let l = lists_of c.args.self.now.setting in
    let left = c.loop-left in
    counted_more l c.args.first left.count left.left left.invariant c.requires.0 c.weight-left.result c.requires.1 (omega arith) c.weight-left.ensures
