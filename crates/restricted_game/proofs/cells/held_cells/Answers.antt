use Rattle.std.proofs.Common.{◌+◌, ◌*◌, ◌/◌, ◌%◌, pos, length, slice_index, slice_index_or, w64, SFits, refl, ap, arith}
use Rattle.std.proofs.lemmas.Int.{ints, to_z-of_z}
use Rattle.restricted_game.proofs.CellLemmas.{cells_more}
use Rattle.restricted_game.proofs.HeldLemmas.{held_place}
use Rattle.restricted_game.proofs.cells.held_cells.Goals as goal

pub bounds-items-row : goal.bounds-items-row
bounds-items-row c =
    let cells = c.args.cells.now in
    omega (
      arith,
      held_place cells.height cells.width c.args.rows.now c.args.cols.now c.loop-place.place c.requires.rows c.requires.cols
          c.loop-place-test.true,
      cells.all,
      ap length c.as_slice-items.ensures.value,
    )

pub loop-place-preserved : goal.loop-place-preserved
loop-place-preserved c =
    let cells = c.args.cells.now in
    let items = c.args.cells.now.items.items in
    let count = length c.args.cols.now in
    let at = slice_index c.args.rows.now (c.loop-place.place / count) * c.args.cells.now.width + slice_index c.args.cols.now (c.loop-place.place % count) in
    let light = cells.small at (pos 0)
    (omega (arith, held_place cells.height cells.width c.args.rows.now c.args.cols.now c.loop-place.place c.requires.rows c.requires.cols c.loop-place-test.true, cells.all)) in
    let f : SFits w64 (slice_index_or items at (pos 0)) = omega (arith, ints, light) in
    let read = rw c.as_slice-items.ensures.value at c.in_ok-push.ensures.items in
    let pushed = rw (to_z-of_z w64 (slice_index_or items at (pos 0)) f) at read in
    let more = cells_more (λ place. slice_index_or items (slice_index c.args.rows.now (place / count) * c.args.cells.now.width + slice_index c.args.cols.now (place % count)) (pos 0))
    c.loop-place.place c.loop-place.held.items c.push.new.self.items
    (slice_index_or items at (pos 0)) pushed c.loop-place.invariant.held_so_far c.loop-place.invariant.small refl light in
    record { held_so_far = more.0; small = more.1 }
