use Rattle.std.proofs.Common.{◌≡◌, ◌<◌, length, pos, ◌+ℤ◌, ℤ, sym, ap, ◌∙◌, arith, rules}
use Rattle.matrix_game.specs.Rounds.{positive_part, regret_of}
use Rattle.matrix_game.proofs.Lists.{number_at}
use Rattle.matrix_game.proofs.cells.Matrix.raised.Goals as goal

pub returns : goal.returns
returns g c =
    let listed : c.args.row < length c.args.regrets.now = omega arith in
    let at = number_at g.R.Regret.number c.args.regrets.now c.args.row c.index-regrets-row.result listed c.index-regrets-row.is in
    let gain : ℤ = regret_of c.args.self.now c.args.weight c.args.reply.col c.args.reply.paid c.args.row in
    let raised : g.R.Regret.number c.raised.result ≡ positive_part (pos (g.R.Regret.number c.index-regrets-row.result) +ℤ gain) = search rules in
    raised ∙ ap (λ x. positive_part (pos x +ℤ gain)) (sym at)
