use Rattle.certificate.proofs.LineLemmas.{value_more, value_fails, values_done}
use Rattle.certificate.proofs.lines.Line.values.Goals as goal

pub returns-in-Err : goal.returns-in-Err
returns-in-Err c =
    value_fails c.in-Err.e c.args.rows.now c.loop-row.row-index _ c.loop-row.values.items c.loop-row.self _ c.loop-row-test.true c.loop-row.invariant c.in-Err.ensures

pub loop-row-preserved : goal.loop-row-preserved
loop-row-preserved c =
    rw c.in_ok-push.ensures.items
    (value_more c.args.rows.now c.loop-row.row-index _ c.loop-row.values.items c.loop-row.self c.value.new.self c.in-Ok.value _ c.loop-row-test.true c.in-Ok.ensures c.loop-row.invariant)

pub returns : goal.returns
returns c = values_done c.args.rows.now c.loop-row.row-index c.loop-row.values.items c.loop-row.self _ c.loop-row-test.false c.loop-row.invariant
