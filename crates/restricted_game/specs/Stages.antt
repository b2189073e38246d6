-- The numbers that a stage is made of, and what a step over them does.
use Rattle.std.specs.Prelude.{◌≡◌}
use Rattle.sim_game.specs.declared.Side.TheVariants.{One, Two}
use Rattle.sim_game.specs.Model.{GameModel}
use Rattle.matrix_game.specs.declared.solver.StageSolver.{StageSolver}
use Rattle.bounds_board.specs.Views.{BoardView, IsLater}
use Rattle.restricted_game.specs.declared.held.StepEnd.{StepEnd}
use Rattle.restricted_game.specs.declared.table.StageNumbers.{StageNumbers}
use Rattle.restricted_game.specs.Gaps.{HasStepGap}
use Rattle.restricted_game.specs.Held.{HeldMoves}
use Rattle.restricted_game.specs.Runs.{IsStepEnd}
use Rattle.restricted_game.specs.Tables.{HasShape, IsFilled, AreCells}

-- cells of both sides over the numbers of a table of the state's shape
pub record HasCells {S : Type 0} (m : GameModel S) (s : S) (numbers : StageNumbers) : Type 0 where
  pub shape : HasShape m s numbers.table
  pub lows : AreCells m One s numbers.table numbers.lows
  pub highs : AreCells m Two s numbers.table numbers.highs

-- the bounds at the states after held moves were read between two views
pub record AreStageNumbers {S G N : Type 0} (m : GameModel S) (u v : BoardView G N) (s : S) (h : HeldMoves) (numbers : StageNumbers) : Type 0 where
  pub later : IsLater u v
  pub filled : IsFilled m u v s h.rows h.cols numbers.table
  pub cells : HasCells m s numbers

-- they were read since some earlier view
pub record WereStageNumbers {S G N : Type 0} (m : GameModel S) (v : BoardView G N) (s : S) (h : HeldMoves) (numbers : StageNumbers) : Type 0 where
  pub since : BoardView G N
  pub are : AreStageNumbers m since v s h numbers

-- ---- a step over numbers, between a view and a later one
-- how it ended, by each view since which they were read and nothing was posted
abbrev pub HasStepEnd : {S G N : Type 0} → GameModel S → BoardView G N → BoardView G N → StageSolver → S → HeldMoves → StageNumbers → StepEnd → Type 0
HasStepEnd {S} {G} {N} m v w solver s h numbers end = (u : BoardView G N) → AreStageNumbers m u v s h numbers → v.entries ≡ u.entries → IsStepEnd m u w solver s h end

-- how close its bounds are, by each view since which they were read
abbrev pub HasStepGapOver : {S G N : Type 0} → GameModel S → BoardView G N → BoardView G N → S → HeldMoves → StageNumbers → StepEnd → Type 0
HasStepGapOver {S} {G} {N} m v w s h numbers end = (u : BoardView G N) → AreStageNumbers m u v s h numbers → HasStepGap m u w s h end

-- ---- a step, between two views
-- how it ended, and how close its bounds are
pub record HasStepped {S G N : Type 0} (m : GameModel S) (u v : BoardView G N) (solver : StageSolver) (s : S) (h : HeldMoves) (end : StepEnd) : Type 0 where
  pub ended : IsStepEnd m u v solver s h end
  pub gap : HasStepGap m u v s h end

-- the same of a step over numbers
pub record HasSteppedOver {S G N : Type 0} (m : GameModel S) (u v : BoardView G N) (solver : StageSolver) (s : S) (h : HeldMoves) (numbers : StageNumbers) (end : StepEnd) : Type 0 where
  pub ended : HasStepEnd m u v solver s h numbers end
  pub gap : HasStepGapOver m u v s h numbers end
