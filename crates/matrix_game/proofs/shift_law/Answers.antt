use Rattle.matrix_game.proofs.ShiftLemmas as law
use Rattle.matrix_game.proofs.shift_law.Goals as goal

pub returns : goal.returns
returns c = law.shift_law
