use Rattle.matrix_game.specs.Rounds.{mixed}
use Rattle.matrix_game.proofs.cells.Matrix.played.Goals as goal

pub returns : goal.returns
returns c = mixed c.requires.mixed c.in_ok-played.ensures.p c.in_ok-played.ensures.v
