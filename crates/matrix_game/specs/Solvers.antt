-- Solvers of matrix games.
use Rattle.matrix_game.specs.declared.solver.StageSolver.{StageSolver}
use Rattle.matrix_game.specs.declared.solver.StageSolver.TheVariants as solvers
use Rattle.matrix_game.specs.declared.solver.SolverKind.{SolverKind}
use Rattle.matrix_game.specs.declared.solver.SolverKind.TheVariants as kinds

-- it answers by the rounds of regret matching, to the letter
abbrev pub UsesRegret : StageSolver → Type 0
UsesRegret (solvers.Regret memory) = Unit {0}
UsesRegret (solvers.Linear buffers) = ⊥

-- the solver of a kind, which keeps nothing yet
abbrev pub solver_of : SolverKind → StageSolver
solver_of (kinds.Regret kept) = solvers.Regret (record { limit = kept; kept = 0 })
solver_of kinds.Linear = solvers.Linear tt
