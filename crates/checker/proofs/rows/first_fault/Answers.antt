use Rattle.checker.proofs.FoundLemmas.{state_of}
use Rattle.checker.proofs.RowLemmas.{rows_more, rows_all, first_here}
use Rattle.checker.proofs.rows.first_fault.Goals as goal

pub row_fault-requires-clause-reached : goal.row_fault-requires-clause-reached
row_fault-requires-clause-reached g c =
    state_of (g.G.Game.model c.args.g) c.args.sheet.now c.in_ok-found.found.items c.loop-place.place c.index-rows-place.result c.index.result.now c.in_ok-found.ensures
    (rw c.as_slice-rows.ensures at c.loop-place-test.true) (rw c.as_slice-rows.ensures at c.index-rows-place.is) c.index.ensures

pub returns-in-Some : goal.returns-in-Some
returns-in-Some g c =
    first_here (g.G.Game.model c.args.g) c.args.sheet.now c.loop-place.place c.index-rows-place.result c.in-Some.why
    (rw c.as_slice-rows.ensures at c.loop-place-test.true) (rw c.as_slice-rows.ensures at c.index-rows-place.is)
    c.loop-place.invariant c.in-Some.ensures

pub loop-place-preserved : goal.loop-place-preserved
loop-place-preserved g c =
    rows_more (g.G.Game.model c.args.g) c.args.sheet.now c.loop-place.place c.index-rows-place.result
    (rw c.as_slice-rows.ensures at c.loop-place-test.true) (rw c.as_slice-rows.ensures at c.index-rows-place.is) c.loop-place.invariant
    c.in_default.ensures

pub returns : goal.returns
returns g c = rows_all (g.G.Game.model c.args.g) c.args.sheet.now c.loop-place.place c.requires (rw c.as_slice-rows.ensures at c.loop-place-test.false) c.loop-place.invariant
