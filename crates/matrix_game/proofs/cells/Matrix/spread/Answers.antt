use Rattle.std.proofs.Common.{arith}
use Rattle.std.proofs.lemmas.Int.{ints}
use Rattle.matrix_game.proofs.cells.Matrix.spread.Goals as goal

pub returns-clause-least : goal.returns-clause-least
returns-clause-least c d spread = omega (arith, ints, c.range-range.ensures.closest d spread)
