-- A memory of solved matrices.
use Rattle.std.specs.Prelude.{◌≡◌, ℕ, List, map, pos, Contains}
use Rattle.lru.specs.LruCache.{LruCache}
use Rattle.matrix_game.specs.declared.memory.StageKey.{StageKey}
use Rattle.matrix_game.specs.declared.rounds.Solution.{Solution}
use Rattle.matrix_game.specs.Grid.{Grid}
use Rattle.matrix_game.specs.Rounds.{IsStage}

-- how many matrices it may keep, and how many it keeps
pub record Memory : Type 0 where
  pub limit : ℕ
  pub kept : ℕ

-- the matrix with these natural numbers as cells
abbrev pub raised_grid : ℕ → ℕ → List ℕ → Grid
raised_grid rows cols cells = record { rows = rows; cols = cols; cells = map pos cells }

-- the weights p of the rows and v of the columns answer what the key says
abbrev pub AnswersKey : StageKey → List ℕ → List ℕ → Type 0
AnswersKey k p v = IsStage (raised_grid k.rows k.cols k.cells.items) k.total p v

-- room for so many entries, and each has the weights of its key
pub record AreKept (limit : ℕ) (stages : LruCache StageKey Solution) : Type 0 where
  pub cap : stages.cap ≡ limit
  pub each : (k : StageKey) (s : Solution) → Contains stages.entries (k, s) → AnswersKey k s.p.items s.v.items
