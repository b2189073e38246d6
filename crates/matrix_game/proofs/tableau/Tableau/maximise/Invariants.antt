use Rattle.std.proofs.Common.{◌≡◌}
use Rattle.matrix_game.proofs.tableau.Tableau.maximise.Given as goal

abbrev pub invariant-loop-turn : goal.invariant-loop-turn
invariant-loop-turn l = record {
  rows : l.self.rows ≡ l.initial.self.rows;
  cols : l.self.cols ≡ l.initial.self.cols;
}
