use Rattle.std.proofs.Common.{◌<◌, IfSome}
use Rattle.matrix_game.proofs.tableau.Tableau.leaving.Given as goal

abbrev pub invariant-loop-row : goal.invariant-loop-row
invariant-loop-row l = IfSome l.found (λ o. o < l.self.rows)
