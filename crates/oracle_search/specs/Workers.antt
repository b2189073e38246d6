-- What a worker has left, and what it has done.
use Rattle.std.specs.Prelude.{◌≡◌, ◌⊎◌, ℕ, Bool, List, true, false, [], ◌∷◌, ◌++◌}
use Rattle.matrix_game.specs.declared.solver.StageSolver.{StageSolver}
use Rattle.matrix_game.specs.declared.solver.StageSolver.TheVariants as solvers
use Rattle.matrix_game.specs.Budget.{Budget, HasGivenUp}
use Rattle.serial_ab.specs.Counts.{VisitsView}
use Rattle.serial_ab.specs.Tables.{TableView}
use Rattle.bounds_board.specs.Views.{BoardView}
use Rattle.oracle_search.specs.Finished.{FinishedView}

-- whether stages are solved by linear programs
abbrev pub is_linear : StageSolver → Bool
is_linear (solvers.Regret memory) = false
is_linear (solvers.Linear buffers) = true

pub record WorkerView : Type 0 where
  pub turns : Budget
  pub visits : VisitsView
  pub finished : FinishedView
  -- the table of its serial searches
  pub searches : TableView
  -- whether it solves stages by linear programs, and makes sweeps
  pub linear : Bool
  -- the states that the sweep under way has finished
  pub swept : List ℕ

-- with no full board in mind, as each search begins
abbrev pub without_full : WorkerView → WorkerView
without_full w = record w { finished = record w.finished { was_full = false } }

-- with a full board in mind
abbrev pub with_full : WorkerView → WorkerView
with_full w = record w { finished = record w.finished { was_full = true } }

-- with one more finished state
abbrev pub with_key : WorkerView → ℕ → WorkerView
with_key w key = record w { finished = record w.finished { keys = w.finished.keys ++ key ∷ [] } }

-- with one more state that the sweep has finished
abbrev pub with_swept : WorkerView → ℕ → WorkerView
with_swept w key = record w { swept = w.swept ++ key ∷ [] }

-- with no search in its table
abbrev pub without_searches : WorkerView → WorkerView
without_searches w = record w { searches = record w.searches { stored = [] } }

-- after the gate was asked: the same, or with no turn left
pub record HasAsked (old new : WorkerView) : Type 0 where
  pub same : new ≡ record old { turns = new.turns }
  pub turns : (new.turns ≡ old.turns) ⊎ HasGivenUp old.turns new.turns

-- a worker and the board that it works on
pub record WorkView (G N : Type 0) : Type 0 where
  pub board : BoardView G N
  pub worker : WorkerView
  pub open worker use *

abbrev pub at_work : {G N : Type 0} → BoardView G N → WorkerView → WorkView G N
at_work board worker = record { board = board; worker = worker }

abbrev pub at_start : {G N : Type 0} → BoardView G N → WorkerView → WorkView G N
at_start board worker = at_work board (without_full worker)
