use Rattle.std.proofs.Common.{map}
use Rattle.matrix_game.specs.Rounds.{raised_regret}
use Rattle.matrix_game.proofs.Lists.{IsMade}
use Rattle.matrix_game.proofs.cells.Matrix.raise.Given as goal

abbrev pub invariant-loop-row : goal.invariant-loop-row
invariant-loop-row g l =
    IsMade (raised_regret l.self l.weight (map g.R.Regret.number l.initial.regrets) l.reply.col l.reply.paid)
    (map g.R.Regret.number l.initial.regrets) (map g.R.Regret.number l.regrets) l.row (g.R.Regret.number l.all)
