use Rattle.std.proofs.Common.{ℕ, ◌<◌}
use Rattle.matrix_game.specs.Grid.{IsSaddle}
use Rattle.matrix_game.proofs.cells.Matrix.saddle.Given as goal

abbrev pub invariant-loop-row : goal.invariant-loop-row
invariant-loop-row l = (a b : ℕ) → a < l.row → IsSaddle l.self a b → ⊥

abbrev pub invariant-loop-col : goal.invariant-loop-col
invariant-loop-col l = (b : ℕ) → b < l.col → IsSaddle l.self l.row b → ⊥
