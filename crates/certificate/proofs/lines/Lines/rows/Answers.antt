use Rattle.certificate.proofs.RowLemmas.{row_more, row_fails, rows_done}
use Rattle.certificate.proofs.lines.Lines.rows.Goals as goal

pub returns-in-Err : goal.returns-in-Err
returns-in-Err c = row_fails c.in-Err.e c.loop-i.rows.items c.args.limits c.args.count c.loop-i._i c.loop-i.last c.loop-i.self _ c.loop-i-test.true c.loop-i.invariant c.in-Err.ensures

pub loop-i-preserved : goal.loop-i-preserved
loop-i-preserved c =
    rw c.in_ok-push.ensures.items
    (row_more c.loop-i.rows.items c.args.limits c.args.count c.loop-i._i c.loop-i.last c.loop-i.self c.next_row.new.self c.in-Ok.row _ c.loop-i-test.true c.in-Ok.ensures c.loop-i.invariant)

pub returns : goal.returns
returns c = rows_done c.loop-i.rows.items c.args.limits c.args.count c.loop-i._i c.loop-i.last c.loop-i.self _ c.loop-i-test.false c.loop-i.invariant
