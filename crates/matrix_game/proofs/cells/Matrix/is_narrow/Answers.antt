use Rattle.std.proofs.Common.{◌≤◌, ◌*◌, arith}
use Rattle.std.proofs.Math.Nat.{mul-le-mul}
use Rattle.sums.specs.declared.TheConstants.{MOST_MOVES}
use Rattle.matrix_game.proofs.cells.Matrix.is_narrow.Goals as goal

pub overflow_mul-result : goal.overflow_mul-result
overflow_mul-result c =
    let light : c.from.result ≤ 1048576 = omega arith in
    let light_too : c.from-2.result ≤ 1048576 = omega arith in
    let spread : c.from-3.result ≤ 8000000000 = omega arith in
    let regret : c.from.result * c.from-2.result * c.from-3.result ≤ 1048576 * 1048576 * 8000000000 = mul-le-mul (mul-le-mul light light_too) spread in
    let all : c.self.inside.rows * (c.from.result * c.from-2.result * c.from-3.result) ≤ MOST_MOVES * (1048576 * 1048576 * 8000000000) = mul-le-mul c.self.invariant.few_rows regret in
    omega (arith, all)
