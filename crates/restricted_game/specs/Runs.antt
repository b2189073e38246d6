-- What one step of a restricted game does: the game on the held moves, the replies to its weights, and the bounds that they prove.
use Rattle.std.specs.Prelude.{◌≡◌, ◌⊎◌, ℕ, ◌*◌, ◌<◌, ◌≤◌, ℤ, pos, ◌*ℤ◌, Option, None, IsSome, Bool, List, [], ◌∷◌, ◌++◌, length, slice_index}
use Rattle.std.specs.Bool.{then_some}
use Rattle.std.specs.List.{Contains}
use Rattle.sums.specs.Sums.{sum_below}
use Rattle.sim_game.specs.declared.Side.{Side}
use Rattle.sim_game.specs.declared.Side.TheVariants.{One, Two}
use Rattle.sim_game.specs.Model.{GameModel}
use Rattle.sim_game.specs.Sides.{other_side, IsNoTighter, IsTighter, quotient, draws_of, after_reward}
use Rattle.plan_book.specs.declared.Entry.{Entry}
use Rattle.plan_book.specs.Steps.{cell, worth}
use Rattle.matrix_game.specs.declared.solver.StageSolver.{StageSolver}
use Rattle.matrix_game.specs.Grid.{Grid, cell_at, row_floor, col_ceiling}
use Rattle.matrix_game.specs.Rounds.{IsStage, IsWeighted, HasResolution}
use Rattle.matrix_game.specs.Solvers.{UsesRegret}
use Rattle.best_reply.specs.Replies.{IsBestReply}
use Rattle.bounds_board.specs.Views.{BoardView, known_bound}
use Rattle.restricted_game.specs.declared.held.StepEnd.{StepEnd}
use Rattle.restricted_game.specs.declared.held.StepEnd.TheVariants.{Grown, Done}
use Rattle.restricted_game.specs.Held.{HeldMoves}
use Rattle.restricted_game.specs.Numbers.{IsClaimed, IsReadNumber, IsWanted}

-- ---- the game on the held moves
-- its cells are those of One's numbers, with rows and columns in order of addition
pub record IsHeldGrid {S : Type 0} (m : GameModel S) (s : S) (rows cols : List ℕ) (numbers : ℕ → ℕ → ℕ → ℤ) (grid : Grid) : Type 0 where
  pub all_rows : grid.rows ≡ length rows
  pub all_cols : grid.cols ≡ length cols
  pub all_cells : length grid.cells ≡ grid.rows * grid.cols
  pub cells : (i j : ℕ) → i < length rows → j < length cols → cell_at grid i j ≡ cell m One s numbers (slice_index rows i) (slice_index cols j)

-- the weights that solve it, by rounds where the solver is by rounds, and how close what they secure and concede is
pub record IsHeldStage (solver : StageSolver) (total : ℕ) (grid : Grid) (p v : List ℕ) : Type 0 where
  pub stage : UsesRegret solver → IsStage grid total p v
  pub resolution : HasResolution grid total (row_floor grid p) (col_ceiling grid v)
  pub rows : IsWeighted grid.rows total p
  pub cols : IsWeighted grid.cols total v

-- ---- what a side makes of its weights
-- the weights of held moves at the indices of their moves among n, and 0 elsewhere
pub record IsSpreadOver (n : ℕ) (held weights full : List ℕ) : Type 0 where
  pub each : length full ≡ n
  pub elsewhere : (move : ℕ) → 1 ≤ slice_index full move → Contains held move
  pub sums : (f : ℕ → ℤ) → sum_below n (λ a. pos (slice_index full a) *ℤ f a) ≡ sum_below (length weights) (λ i. pos (slice_index weights i) *ℤ f (slice_index held i))

-- the plan over all own moves, the best reply to it, which may be fresh, and the tightest bound that it proves
pub record IsPlan {S : Type 0} (m : GameModel S) (side : Side) (s : S) (total : ℕ) (own others weights : List ℕ) (numbers : ℕ → ℕ → ℕ → ℤ) (plan : List ℕ) (bound : ℤ) (fresh : Option ℕ) : Type 0 where
  pub spread : IsSpreadOver (m.moves side s) own weights plan
  pub reply : ℕ
  pub sum : ℤ
  pub is_fresh : Bool
  pub is_best : IsBestReply side (worth m side s plan numbers) (m.moves (other_side side) s) others reply sum is_fresh
  pub bound_is : bound ≡ quotient side total sum
  pub fresh_is : fresh ≡ then_some is_fresh reply

-- a side's part of a step between two views: what was read, the plan over it, and its bound, which is known afterwards
pub record IsSideRun {S G N : Type 0} (m : GameModel S) (u v : BoardView G N) (side : Side) (s : S) (total : ℕ) (own others weights : List ℕ) (bound : ℤ) (fresh : Option ℕ) : Type 0 where
  pub numbers : ℕ → ℕ → ℕ → ℤ
  pub read : (move other draw : ℕ) → move < m.moves side s → other < m.moves (other_side side) s → IsWanted own others move other → draw < draws_of m side s move other
      → after_reward m side s move other draw (IsReadNumber m u v side) (numbers move other draw)
  pub plan : List ℕ
  pub planned : IsPlan m side s total own others weights numbers plan bound fresh
  pub known : IsNoTighter side bound (known_bound m v side s)

-- ---- posts
abbrev pub entry_at : {S : Type 0} → GameModel S → Side → S → ℤ → List ℕ → Entry
entry_at m side s bound weights = record { key = m.key s; side = side; bound = bound; weights = weights }

-- an entry that is tighter than what an earlier view had seen was posted, or nothing was
pub data IsPosted {G N : Type 0} (u : BoardView G N) (e : Entry) (old new : List Entry) : Type 0 where
  posts : IsTighter e.side e.bound (u.seen e.side e.key) → new ≡ old ++ e ∷ [] → IsPosted u e old new
  passes : new ≡ old → IsPosted u e old new

-- ---- the step
-- one step between two views; a row or a column that it names is a reply that was not held
pub record IsStepRun {S G N : Type 0} (m : GameModel S) (u v : BoardView G N) (solver : StageSolver) (s : S) (rows cols : List ℕ) (row col : Option ℕ) (lower upper : ℤ) : Type 0 where
  pub claimed : IsClaimed v (m.key s)
  pub grid : Grid
  pub row_weights : List ℕ
  pub col_weights : List ℕ
  pub stage : IsHeldStage solver u.total grid row_weights col_weights
  pub one : IsSideRun m u v One s u.total rows cols row_weights lower col
  pub two : IsSideRun m u v Two s u.total cols rows col_weights upper row
  pub is_grid : IsHeldGrid m s rows cols one.numbers grid
  pub between : List Entry
  pub one_posted : IsPosted u (entry_at m One s lower one.plan) u.entries between
  pub two_posted : IsPosted u (entry_at m Two s upper two.plan) between v.entries

-- how a step ended: it names the replies that are fresh, or its bounds where none is
pub data IsStepEnd {S G N : Type 0} (m : GameModel S) (u v : BoardView G N) (solver : StageSolver) (s : S) (h : HeldMoves) : StepEnd → Type 0 where
  grows : (row col : Option ℕ) (lower upper : ℤ) → IsStepRun m u v solver s h.rows h.cols row col lower upper → IsSome row ⊎ IsSome col → IsStepEnd m u v solver s h (Grown row col)
  stays : (lower upper : ℤ) → IsStepRun m u v solver s h.rows h.cols None None lower upper → IsStepEnd m u v solver s h (Done lower upper)
