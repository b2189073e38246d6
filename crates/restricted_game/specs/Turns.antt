-- The turn that a step takes.
use Rattle.std.specs.Prelude.{◌≡◌, ◌⊎◌, ◌↔◌, Result, Err, OnOk}
use Rattle.matrix_game.specs.Budget.{Budget, left_of, after_one_turn}
use Rattle.bounds_board.specs.Views.{BoardView}
use Rattle.restricted_game.specs.declared.held.StepEnd.{StepEnd}
use Rattle.restricted_game.specs.declared.held.StepFault.{StepFault}
use Rattle.restricted_game.specs.declared.held.StepFault.TheVariants.{Spent, Full}

-- Ok takes one turn, and of the faults only out of memory may take one; Spent comes exactly where none is left. Where none is left the
-- board stays untouched, and where none was taken nothing was posted
pub record TakesStepTurn {G N : Type 0} (old new : Budget) (u v : BoardView G N) (result : Result StepEnd StepFault) : Type 0 where
  pub ok : OnOk result (new ≡ after_one_turn old)
  pub none : (result ≡ Err Spent) ⊎ (result ≡ Err Full) → new ≡ old
  pub at_most_one : (new ≡ old) ⊎ (new ≡ after_one_turn old)
  pub spent : (result ≡ Err Spent) ↔ (left_of old ≡ 0)
  pub untouched : left_of old ≡ 0 → v ≡ u
  pub unposted : new ≡ old → v.entries ≡ u.entries

-- a step over numbers that were read: Ok takes one turn, out of memory may take one, and where none was taken the board stays untouched
pub record TakesTurnOver {G N F : Type 0} (old new : Budget) (u v : BoardView G N) (result : Result StepEnd F) : Type 0 where
  pub ok : OnOk result (new ≡ after_one_turn old)
  pub at_most_one : (new ≡ old) ⊎ (new ≡ after_one_turn old)
  pub unposted : new ≡ old → v ≡ u
