use Rattle.std.proofs.Common.{rules, ◌≡◌, ℕ, ℤ, pos, ◌+ℤ◌, ◌*ℤ◌, w64, SFits, to_z, slice_index, ◌∙◌, arith}
use Rattle.std.proofs.lemmas.Int.{ints, to_z-of_z}
use Rattle.plan_book.specs.Steps.{cell}
use Rattle.induction.specs.Certified.{turn_numbers}
use Rattle.induction.proofs.BoundLemmas.{no_part, one_more}
use Rattle.induction.proofs.bounds.worth.Goals as goal
use Rattle.induction.proofs.bounds.worth.Goals.{then-weight-gt0, else-weight-gt0}

pub loop-own-preserved : goal.loop-own-preserved
loop-own-preserved g c =
    let m = g.G.Game.model c.args.g in
    let f : ℕ → ℤ = λ own. pos (slice_index c.args.weights.now own) *ℤ cell m c.args.side c.args.s (turn_numbers m c.args.side c.args.rows.now c.args.s) own c.args.reply in
    elim c.if-weight-gt0.branch [
      | then-weight-gt0 w ↦
          let fits : SFits w64 w.cell.result = search rules in
          let part = rw (to_z-of_z w64 w.cell.result fits, w.cell.ensures.value) at w.weighted-sum.ensures.value in
          let small : SFits w64 w.weighted-sum.result = search rules in
          let whole : SFits w64 (to_z w64 c.loop-own.sum-bits +ℤ w.weighted-sum.result) = search rules in
          let new : to_z w64 c.if-weight-gt0.sum-bits ≡ to_z w64 c.loop-own.sum-bits +ℤ w.weighted-sum.result =
          (rw (to_z-of_z w64 w.weighted-sum.result small) at w.sum-is) ∙ to_z-of_z w64 (to_z w64 c.loop-own.sum-bits +ℤ w.weighted-sum.result) whole in
          record {
            so_far = one_more c.loop-own.own f (to_z w64 c.loop-own.sum-bits) w.weighted-sum.result (to_z w64 c.if-weight-gt0.sum-bits) c.loop-own.invariant.so_far part new;
            small = omega (arith, ints, new, c.loop-own.invariant.small, w.weighted-sum.ensures.small);
            few = c.loop-own.invariant.few;
          }
      | else-weight-gt0 w ↦
          let none : slice_index c.args.weights.now c.loop-own.own ≡ 0 = omega arith in
          record {
            so_far = one_more c.loop-own.own f (to_z w64 c.loop-own.sum-bits) (pos 0) (to_z w64 c.if-weight-gt0.sum-bits) c.loop-own.invariant.so_far (no_part _ _ none)
                (omega (arith, ints, w.sum-is));
            small = omega (arith, ints, w.sum-is, c.loop-own.invariant.small);
            few = c.loop-own.invariant.few;
          }
    ]
