use Rattle.std.proofs.Common.{◌<◌, IfSome}
use Rattle.matrix_game.proofs.tableau.Tableau.entering.Given as goal

abbrev pub invariant-loop-col : goal.invariant-loop-col
invariant-loop-col l = IfSome l.found (λ o. o < l.self.cols)
