use Rattle.std.proofs.Common.{◌≡◌, arith, subst, map, pos, ◌+ℤ◌, ℤ, to_z, of_z, w64}
use Rattle.std.proofs.lemmas.Int.{to_z-of_z}
use Rattle.matrix_game.proofs.ShiftLemmas.{raised_cells}
use Rattle.matrix_game.proofs.memory.lowered.Goals as goal

pub returns : goal.returns
returns c =
    let k = to_z w64 (of_z w64 c.args.least) in
    subst (λ (z : ℤ). c.args.cells.now ≡ map (λ y. y +ℤ z) (map pos c.loop-cell.others.items)) (to_z-of_z w64 c.args.least c.ranges.least)
    (raised_cells c.args.cells.now c.loop-cell.others.items k (omega (arith, c.loop-cell.invariant.as_many)) (λ i l. c.loop-cell.invariant.so_far i (omega (arith, c.loop-cell.invariant.as_many))))
