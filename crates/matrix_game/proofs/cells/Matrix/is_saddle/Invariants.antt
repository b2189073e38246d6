use Rattle.std.proofs.Common.{ℕ, ◌<◌, ◌≤ℤ◌}
use Rattle.matrix_game.specs.Grid.{cell_at}
use Rattle.matrix_game.proofs.cells.Matrix.is_saddle.Given as goal

abbrev pub invariant-loop-other : goal.invariant-loop-other
invariant-loop-other l = (k : ℕ) → k < l.other → cell_at l.self l.row l.col ≤ℤ cell_at l.self l.row k

abbrev pub invariant-loop-rival : goal.invariant-loop-rival
invariant-loop-rival l = (k : ℕ) → k < l.rival → cell_at l.self k l.col ≤ℤ cell_at l.self l.row l.col
