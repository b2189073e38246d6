-- How a worker solves matrix games.
use Rattle.std.specs.Prelude.{ℕ}
use Rattle.fields.specs.declared.ask.StageMethod.{StageMethod}
use Rattle.fields.specs.declared.ask.StageMethod.TheVariants as methods
use Rattle.matrix_game.specs.declared.solver.SolverKind.{SolverKind}
use Rattle.matrix_game.specs.declared.solver.SolverKind.TheVariants as kinds

-- by the method asked, with a memory of so many solved matrices
abbrev pub solver_kind : StageMethod → ℕ → SolverKind
solver_kind methods.Regret kept = kinds.Regret kept
solver_kind methods.Linear kept = kinds.Linear
