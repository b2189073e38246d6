use Rattle.serde_json.specs.View.{view}
use Rattle.position.proofs.FieldLemmas.{value_more, value_fails, values_done, fit_more, fit_all}
use Rattle.position.proofs.object.values.Goals as goal

pub returns-in-Err-clause-exact : goal.returns-in-Err-clause-exact
returns-in-Err-clause-exact c =
    value_fails c.in-Err.e c.args.rows.now c.loop-row.row-index _ c.loop-row.values.items (view c.args.object.now) _ c.loop-row-test.true c.loop-row.invariant.told c.in-Err.ensures.exact

pub loop-row-preserved : goal.loop-row-preserved
loop-row-preserved c =
    rw c.in_ok-push.ensures.items record {
      told = value_more c.args.rows.now c.loop-row.row-index _ c.loop-row.values.items c.in-Ok.value (view c.args.object.now) _ c.loop-row-test.true c.in-Ok.ensures.exact c.loop-row.invariant.told;
      fits = fit_more c.args.rows.now c.loop-row.row-index _ c.loop-row.values.items c.in-Ok.value c.loop-row-test.true c.loop-row.invariant.fits c.in-Ok.ensures.fits;
    }

pub returns-clause-exact : goal.returns-clause-exact
returns-clause-exact c =
    values_done c.args.rows.now c.loop-row.row-index c.loop-row.values.items (view c.args.object.now) _ c.loop-row-test.false c.loop-row.invariant.told

pub returns-clause-fits : goal.returns-clause-fits
returns-clause-fits c = fit_all c.args.rows.now c.loop-row.row-index c.loop-row.values.items c.loop-row-test.false c.loop-row.invariant.fits
