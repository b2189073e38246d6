use Rattle.std.proofs.Common.{pos, ◌*ℤ◌, w64, SFits, slice_index, arith}
use Rattle.std.proofs.lemmas.Int.{ints, to_z-of_z}
use Rattle.checker.specs.Faults.{cell_of}
use Rattle.checker.proofs.BoundLemmas.{one_more}
use Rattle.checker.proofs.worth.worth.Goals as goal

pub loop-own-preserved : goal.loop-own-preserved
loop-own-preserved g c =
    let m = g.G.Game.model c.args.g in
    let fits : SFits w64 c.cell.result = omega (arith, ints) in
    let part = rw (to_z-of_z w64 c.cell.result fits, c.cell.ensures.value) at c.weighted-sum.ensures.value in
    record {
      so_far = one_more c.loop-own.own
          (λ own. pos (slice_index c.args.weights.now own) *ℤ cell_of m c.args.sheet.now c.args.s own c.args.reply) _ _ _ c.loop-own.invariant.so_far part (omega (arith, ints));
      small = omega (arith, ints);
      few = c.loop-own.invariant.few;
    }
