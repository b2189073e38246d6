use Rattle.std.proofs.Common.{arith, ◌≡◌, ◌*◌, ap, ◌∙◌, subst, pos, ◌*ℤ◌, w64, FitsSigned}
use Rattle.std.proofs.lemmas.Int.{ints, to_z-of_z}
use Rattle.matrix_game.specs.Grid.{Grid, IsMatrix}
use Rattle.matrix_game.proofs.HeightLemmas.{found}
use Rattle.matrix_game.proofs.cells.Matrix.lane_reply.Goals as goal

pub sum_rows-requires-clause-few_rows : goal.sum_rows-requires-clause-few_rows
sum_rows-requires-clause-few_rows c =
    let matrix : IsMatrix c.args.self.now = subst IsMatrix c.self.view_is c.self.invariant in
    omega (arith, matrix.few_rows, c.requires.heights.rows)

pub overflow_cast-paid : goal.overflow_cast-paid
overflow_cast-paid c =
    let matrix : IsMatrix c.args.self.now = subst IsMatrix c.self.view_is c.self.invariant in
    let f = found c.args.self.now c.args.heights.now.least
    (8 * c.args.heights.now.blocks) c.args.weight c.args.heights.now.rows c.self.inside.cols c.place_of_least-col.result
    c.args.heights.now.cells.items c.args.p.now c.sum_rows.new.sums matrix c.requires.heights.cells c.requires.heights.small c.requires.heights.rows
    (ap (λ (m : Grid). m.cols) c.self.view_is)
    c.requires.weights c.requires.light_weight c.sum_rows.ensures c.place_of_least-col.ensures.place in
    omega (arith, ints, f.small_sum)

pub overflow_add-paid : goal.overflow_add-paid
overflow_add-paid c =
    let matrix : IsMatrix c.args.self.now = subst IsMatrix c.self.view_is c.self.invariant in
    let f = found c.args.self.now c.args.heights.now.least
    (8 * c.args.heights.now.blocks) c.args.weight c.args.heights.now.rows c.self.inside.cols c.place_of_least-col.result
    c.args.heights.now.cells.items c.args.p.now c.sum_rows.new.sums matrix c.requires.heights.cells c.requires.heights.small c.requires.heights.rows
    (ap (λ (m : Grid). m.cols) c.self.view_is)
    c.requires.weights c.requires.light_weight c.sum_rows.ensures c.place_of_least-col.ensures.place in
    omega (arith, ints, f.small_sum, c.weighted.ensures.small)

pub returns : goal.returns
returns c =
    let matrix : IsMatrix c.args.self.now = subst IsMatrix c.self.view_is c.self.invariant in
    let f = found c.args.self.now c.args.heights.now.least
    (8 * c.args.heights.now.blocks) c.args.weight c.args.heights.now.rows c.self.inside.cols c.place_of_least-col.result
    c.args.heights.now.cells.items c.args.p.now c.sum_rows.new.sums matrix c.requires.heights.cells c.requires.heights.small c.requires.heights.rows
    (ap (λ (m : Grid). m.cols) c.self.view_is)
    c.requires.weights c.requires.light_weight c.sum_rows.ensures c.place_of_least-col.ensures.place in
    let fits : FitsSigned w64 c.args.heights.now.least = omega (arith, ints) in
    let added : c.weighted.result ≡ pos c.args.weight *ℤ c.args.heights.now.least = c.weighted.ensures.value ∙ ap (λ z. pos c.args.weight *ℤ z) (to_z-of_z w64 c.args.heights.now.least fits) in
    record {
      col = f.is_reply;
      paid = omega (arith, ints, f.small_sum, f.floor, added, c.weighted.ensures.small);
      col_in = omega (arith, c.place_of_least-col.ensures.place_in, ap (λ (m : Grid). m.cols) c.self.view_is);
      bounded = omega (arith, ints, f.small_sum, c.weighted.ensures.small);
    }
