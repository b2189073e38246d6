use Rattle.std.proofs.Common.{subst}
use Rattle.matrix_game.specs.Grid.{IsMatrix}
use Rattle.matrix_game.proofs.Loop.{wide-room}
use Rattle.matrix_game.proofs.cells.Matrix.rounds.Goals as goal

pub play-requires-else-is_narrow-clause-room : goal.play-requires-else-is_narrow-clause-room
play-requires-else-is_narrow-clause-room c = wide-room c.args.self.now c.args.weight (subst IsMatrix c.self.view_is c.self.invariant) c.requires.light
