use Rattle.std.proofs.Common.{◌≡◌, arith, sum, max, map, length, subst, ℕ, List}
use Rattle.std.proofs.lemmas.List.{length-map}
use Rattle.matrix_game.proofs.Mixtures.{IsShared, share_left, shared_more, shared_all}
use Rattle.matrix_game.proofs.shares.mix.Goals as goal

pub overflow_sub-left : goal.overflow_sub-left
overflow_sub-left g c =
    let q : List ℕ = map g.R.Regret.number c.args.regrets.now in
    let each : length q ≡ length c.args.regrets.now = length-map c.args.regrets.now g.R.Regret.number in
    let all : c.max-divisor.result ≡ max (sum q) 1 = omega arith in
    omega (arith, c.share-share.ensures, share_left c.args.weight c.max-divisor.result c.loop-row.row q c.loop-row.p c.loop-row.left all (omega arith) (omega arith) c.loop-row.invariant)

pub loop-row-preserved : goal.loop-row-preserved
loop-row-preserved g c =
    let q : List ℕ = map g.R.Regret.number c.args.regrets.now in
    let each : length q ≡ length c.args.regrets.now = length-map c.args.regrets.now g.R.Regret.number in
    let all : c.max-divisor.result ≡ max (sum q) 1 = omega arith in
    shared_more c.args.weight c.max-divisor.result c.loop-row.row q c.loop-row.p c.loop-row.left c.share-share.result all (omega arith) (omega arith)
    (omega arith) c.share-share.ensures c.loop-row.invariant

pub returns : goal.returns
returns g c =
    let q : List ℕ = map g.R.Regret.number c.args.regrets.now in
    let each : length q ≡ length c.args.regrets.now = length-map c.args.regrets.now g.R.Regret.number in
    let all : c.max-divisor.result ≡ max (sum q) 1 = omega arith in
    let end : c.loop-row.row ≡ length q = omega arith in
    shared_all c.args.weight c.max-divisor.result q c.loop-row.p c.loop-row.left all (omega arith) (omega arith)
    (subst (λ (n : ℕ). IsShared c.args.weight c.max-divisor.result n q c.loop-row.p c.loop-row.left) end c.loop-row.invariant)
