use Rattle.std.proofs.Common.{map}
use Rattle.matrix_game.proofs.Loop.{IsBeforeRound}
use Rattle.matrix_game.proofs.cells.Matrix.play.Given as goal

abbrev pub invariant-loop-round : goal.invariant-loop-round
invariant-loop-round g l = IsBeforeRound l.self l.weight l.round (map g.R.Regret.number l.regrets) (g.R.Regret.number l.all) l.counts l.best l.low
