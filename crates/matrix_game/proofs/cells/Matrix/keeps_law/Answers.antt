use Rattle.std.proofs.Common.{◌≡◌, ℕ, ℤ, pos, ◌-ℤ◌, ◌*ℤ◌, ◌≤ℤ◌, ◌≤◌, ◌*◌, unsigned_abs, ap, subst, ◌∙◌, arith}
use Rattle.std.proofs.Math.Nat.{mul-le-mul, mul-le-mul_left}
use Rattle.std.proofs.lemmas.Int.{ints, unsigned_abs-mul}
use Rattle.std.proofs.lemmas.Bool.{leb-true}
use Rattle.matrix_game.specs.Grid.{Grid, IsMatrix}
use Rattle.sums.proofs.CountLemmas.{square_mono}
use Rattle.matrix_game.proofs.Stages.{plans_of_gap}
use Rattle.matrix_game.proofs.cells.Matrix.keeps_law.Goals as goal

-- a number whose size has so small a square, over a spread that is no greater
law_by : (n w s d gap : ℕ) (z : ℤ) → gap ≡ unsigned_abs z → s ≤ d → gap * gap ≤ 2 * n * w * (s * s) → (z *ℤ z) ≤ℤ pos (2 * (n * (w * (d * d))))
law_by n w s d gap z same near law =
    let more = mul-le-mul_left (2 * n * w) (square_mono s d near) in
    let size : unsigned_abs (z *ℤ z) ≡ gap * gap = omega (arith, unsigned_abs-mul z z, ap (λ y. y * y) same) in
    omega (arith, ints, size, more)

pub overflow_mul-result-3 : goal.overflow_mul-result-3
overflow_mul-result-3 c =
    let light : c.from.result ≤ 1048576 = omega arith in
    let spread : c.from-spread.result ≤ 8000000000 = omega arith in
    let times = mul-le-mul c.self.invariant.few_rows light in
    let all = mul-le-mul times (mul-le-mul spread spread) in
    omega (arith, all)

pub returns : goal.returns
returns c test =
    let m = c.args.self.now in
    let matrix : IsMatrix m = subst IsMatrix c.self.view_is c.self.invariant in
    plans_of_gap m c.args.total c.args.plans.now matrix c.requires.weighed (λ d spread large.
    let near : c.from-spread.result ≤ d = omega (arith, c.spread.ensures.least d spread) in
    let gap : c.from-gap.result ≡ unsigned_abs (c.args.plans.now.high -ℤ c.args.plans.now.low) = omega (arith, ints, c.from-gap.ensures, c.abs_diff.ensures) in
    let law = leb-true _ _ test in
    let rows = ap (λ (g : Grid). g.rows) c.self.view_is in
    let times : 2 * c.self.inside.rows * c.from.result ≡ 2 * m.rows * c.args.total = ap (λ n. 2 * n * c.from.result) rows ∙ ap (λ n. 2 * m.rows * n) c.from.ensures in
    let at : c.from-gap.result * c.from-gap.result ≤ 2 * m.rows * c.args.total * (c.from-spread.result * c.from-spread.result) =
    omega (arith, law, ap (λ n. n * (c.from-spread.result * c.from-spread.result)) times) in
    law_by m.rows c.args.total c.from-spread.result d c.from-gap.result (c.args.plans.now.high -ℤ c.args.plans.now.low) gap near at)
