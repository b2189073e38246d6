use Rattle.std.proofs.Common.{arith, ◌*◌, [], ◌∷◌, length-append, subst, ap, to_z, of_z, w64, ℤ}
use Rattle.std.proofs.lemmas.Int.{to_z-of_z}
use Rattle.std.proofs.lemmas.Nat.{mul-add-lt}
use Rattle.matrix_game.specs.Grid.{Grid}
use Rattle.matrix_game.specs.Heights.{AreHeights}
use Rattle.matrix_game.proofs.HeightLemmas.{one_more_height}
use Rattle.matrix_game.proofs.cells.Matrix.filled.Goals as goal

pub loop-place-preserved : goal.loop-place-preserved
loop-place-preserved c =
    let m = c.args.self.now in
    let hs = c.loop-place.heights.items in
    rw c.in_ok-push.ensures.items (record {
      as_many = omega (arith, length-append hs (c.height.result ∷ []), c.loop-place.invariant.as_many);
      cells = one_more_height m
          (to_z w64 (of_z w64 c.args.least)) c.args.width c.loop-place.place c.height.result hs c.requires.all c.loop-place.invariant.as_many c.loop-place.invariant.cells c.height.ensures;
    })

pub returns : goal.returns
returns c =
    let m = c.args.self.now in
    let rows = ap (λ (g : Grid). g.rows) c.self.view_is in
    let count = ap (λ n. n * c.args.width) rows in
    let k = to_z w64 (of_z w64 c.args.least) in
    let wide = c.requires.all in
    subst (λ (z : ℤ). AreHeights m z c.args.width c.loop-place.heights.items) (to_z-of_z w64 c.args.least c.ranges.least)
    (let are : AreHeights m k c.args.width c.loop-place.heights.items = record {
      all_cols = wide;
      narrow = c.requires.narrow;
      all_cells = omega (arith, c.loop-place.invariant.as_many, count);
      cells = λ a b h l. c.loop-place.invariant.cells a b (omega (arith, count, mul-add-lt a c.args.width b m.rows h (omega arith))) l;
    } in are)
