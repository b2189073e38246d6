use Rattle.table_text.proofs.StateLists.{draws_more}
use Rattle.table_text.proofs.lists.DrawLists.push_all.Goals as goal

pub loop-draw-preserved : goal.loop-draw-preserved
loop-draw-preserved c =
    draws_more c.args.self.now c.loop-draw.self c.push.new.self c.args.draws.now c.loop-draw.draw-index c.draw-item.result c.loop-draw-test.true c.draw-item.is c.loop-draw.invariant
    c.in_ok-push.ensures
