-- How close the bounds of a step are.
use Rattle.std.specs.Prelude.{ℕ, ◌+◌, ◌<◌, ◌≤◌, ℤ, pos, ◌+ℤ◌, ◌≤ℤ◌, cond}
use Rattle.std.specs.List.{Contains}
use Rattle.sim_game.specs.declared.Side.TheVariants.{One, Two}
use Rattle.sim_game.specs.Model.{GameModel}
use Rattle.sim_game.specs.Resolution.{IsStageGap}
use Rattle.bounds_board.specs.Views.{BoardView, known_bound}
use Rattle.restricted_game.specs.declared.held.StepEnd.{StepEnd}
use Rattle.restricted_game.specs.declared.held.StepEnd.TheVariants.{Grown, Done}
use Rattle.restricted_game.specs.Held.{HeldMoves}

-- each state after held moves of both sides is an end, or the bounds known of it are at most so far apart
pub record AreClose {S G N : Type 0} (m : GameModel S) (v : BoardView G N) (s : S) (h : HeldMoves) (gap : ℕ) : Type 0 where
  pub close : (one two draw : ℕ) → Contains h.rows one → Contains h.cols two → draw < m.draws s one two → 1 ≤ m.rank (m.drawn s one two draw)
      → known_bound m v Two (m.drawn s one two draw) ≤ℤ (known_bound m v One (m.drawn s one two draw) +ℤ pos gap)

-- a gap at the states after held moves, with what a stage and the roundings add to it
abbrev pub step_gap : {S : Type 0} → GameModel S → ℕ → ℕ → ℕ
step_gap m gap stage = gap + stage + 1 + cond m.chance_free 0 1

-- the two bounds, and those known of the state, are at most so far apart
pub record IsStepClose {S G N : Type 0} (m : GameModel S) (v : BoardView G N) (s : S) (lower upper : ℤ) (gap : ℕ) : Type 0 where
  pub bounds : upper ≤ℤ (lower +ℤ pos gap)
  pub known : known_bound m v Two s ≤ℤ (known_bound m v One s +ℤ pos gap)

-- where no reply is fresh, and the states after held moves were close before the step, so are the bounds after it
abbrev pub HasStepGap : {S G N : Type 0} → GameModel S → BoardView G N → BoardView G N → S → HeldMoves → StepEnd → Type 0
HasStepGap m u v s h (Grown row col) = Unit {0}
HasStepGap m u v s h (Done lower upper) = (gap stage : ℕ) → AreClose m u s h gap → IsStageGap m u.total stage → IsStepClose m v s lower upper (step_gap m gap stage)
