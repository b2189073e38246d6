use Rattle.std.proofs.Common.{◌≡◌, ◌<◌, ◌≤◌, ◌*◌, ◌/◌, ◌^◌, ℕ, arith, ap, ◌∙◌}
use Rattle.std.proofs.Math.Nat.{mul-le-mul, mul-le-mul_left, div-le_of_le-mul}
use Rattle.matrix_game.proofs.Lists.{number-le}
use Rattle.matrix_game.proofs.shares.share.Goals as goal

-- a share is at most the weight
share-le : (x y w n all : ℕ) → x ≡ w → y ≡ n → n ≤ all → x * y / all ≤ w
share-le x y w n all ex ey h =
    let product : w * n ≤ all * w = omega (arith, mul-le-mul_left w h) in
    let same : x * y ≡ w * n = ap (λ z. z * y) ex ∙ ap (λ z. w * z) ey in
    div-le_of_le-mul all (omega (arith, product, same))

-- a product is small where that of numbers that are no less is
part-small : (x y z all bound : ℕ) → z * all < bound → x ≤ z → y ≤ all → x * y < bound
part-small x y z all bound h low part = let product : x * y ≤ z * all = mul-le-mul low part in omega (arith, product, h)

pub overflow_mul-from : goal.overflow_mul-from
overflow_mul-from g c =
    let light : c.from.result ≤ 2097151 = omega arith in
    let low : c.args.all ≤ 2 ^ 107 = omega arith in
    let product : c.from.result * c.args.all ≤ 2097151 * 2 ^ 107 = mul-le-mul light low in
    omega (arith, product)

pub narrow-requires : goal.narrow-requires
narrow-requires g c =
    let part = number-le g.R.Regret.number c.args.regrets.now c.args.row c.index-regrets-row.result c.requires.row_in c.index-regrets-row.is in
    let whole = part-small 1 c.args.all c.from.result c.args.all (2 ^ 63) c.if-from-all.true (omega arith) (omega arith) in
    omega (arith, part, whole)

pub overflow_mul-number : goal.overflow_mul-number
overflow_mul-number g c =
    let part = number-le g.R.Regret.number c.args.regrets.now c.args.row c.index-regrets-row.result c.requires.row_in c.index-regrets-row.is in
    let within : g.R.Regret.number c.index-regrets-row.result ≤ c.args.all = omega (arith, part) in
    omega (arith, part-small c.from-then-from-all.result c.narrow.result c.from.result c.args.all (2 ^ 63) c.if-from-all.true (omega arith) (omega (arith, within)))

pub overflow_cast-all : goal.overflow_cast-all
overflow_cast-all g c = omega (arith, part-small 1 c.args.all c.from.result c.args.all (2 ^ 63) c.if-from-all.true (omega arith) (omega arith))

pub quotient-requires-clause-fits : goal.quotient-requires-clause-fits
quotient-requires-clause-fits g c =
    let part = number-le g.R.Regret.number c.args.regrets.now c.args.row c.index-regrets-row.result c.requires.row_in c.index-regrets-row.is in
    let within : g.R.Regret.number c.index-regrets-row.result ≤ c.args.all = omega (arith, part) in
    omega (arith, share-le c.from-then-from-all.result c.narrow.result c.args.weight (g.R.Regret.number c.index-regrets-row.result) c.args.all c.from-then-from-all.ensures c.narrow.ensures within)

pub quotient-requires-clause-room : goal.quotient-requires-clause-room
quotient-requires-clause-room g c = omega (arith, part-small c.estimate-estimate.result c.args.all c.from.result c.args.all (2 ^ 63) c.if-from-all.true (omega arith) (omega arith))

pub overflow_mul-from-else-from-all : goal.overflow_mul-from-else-from-all
overflow_mul-from-else-from-all g c =
    let part = number-le g.R.Regret.number c.args.regrets.now c.args.row c.index-regrets-row.result c.requires.row_in c.index-regrets-row.is in
    let light : c.from-else-from-all.result ≤ 1048576 = omega arith in
    let low : c.wide-else-from-all.result ≤ 2 ^ 107 = omega (arith, part) in
    let product : c.from-else-from-all.result * c.wide-else-from-all.result ≤ 1048576 * 2 ^ 107 = mul-le-mul light low in
    omega (arith, product)

pub wide_quotient-requires-clause-fits : goal.wide_quotient-requires-clause-fits
wide_quotient-requires-clause-fits g c =
    let part = number-le g.R.Regret.number c.args.regrets.now c.args.row c.index-regrets-row.result c.requires.row_in c.index-regrets-row.is in
    let within : g.R.Regret.number c.index-regrets-row.result ≤ c.args.all = omega (arith, part) in
    omega (
      arith,
      share-le c.from-else-from-all.result c.wide-else-from-all.result c.args.weight
          (g.R.Regret.number c.index-regrets-row.result) c.args.all c.from-else-from-all.ensures c.wide-else-from-all.ensures within,
    )
