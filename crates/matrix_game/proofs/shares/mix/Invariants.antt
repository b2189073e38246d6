use Rattle.std.proofs.Common.{map}
use Rattle.matrix_game.proofs.Mixtures.{IsShared}
use Rattle.matrix_game.proofs.shares.mix.Given as goal

abbrev pub invariant-loop-row : goal.invariant-loop-row
invariant-loop-row g l = IsShared l.weight l.divisor l.row (map g.R.Regret.number l.regrets) l.p l.left
