-- What solvers answer: plans of both sides, for one turn.
use Rattle.std.specs.Prelude.{◌≡◌, ◌↔◌, ℕ, ◌*◌, ◌≤◌, List, unsigned_abs, Result, Err, OnOk, OnErr}
use Rattle.sums.specs.declared.TheConstants.{MOST_BOUND}
use Rattle.matrix_game.specs.declared.stage.StageError.{StageError}
use Rattle.matrix_game.specs.declared.stage.StageError.TheVariants.{Spent}
use Rattle.matrix_game.specs.declared.stage.StagePlans.{StagePlans}
use Rattle.matrix_game.specs.Budget.{Budget, left_of, after_one_turn}
use Rattle.matrix_game.specs.Grid.{Grid, row_floor, col_ceiling, IsSaddle, IsFirstSaddle}
use Rattle.matrix_game.specs.Rounds.{IsWeighted, HasSmallGap, HasResolution, all_on}

-- the weights p of the rows and v of the columns, with what they secure and concede
abbrev pub plans_by : Grid → List ℕ → List ℕ → StagePlans
plans_by m p v = record { p = p; v = v; low = row_floor m p; high = col_ceiling m v }

-- plans of the weight w with what they secure and concede, however far apart that is
pub record AreWeighed (m : Grid) (w : ℕ) (plans : StagePlans) : Type 0 where
  pub rows : IsWeighted m.rows w plans.p
  pub cols : IsWeighted m.cols w plans.v
  pub low : plans.low ≡ row_floor m plans.p
  pub high : plans.high ≡ col_ceiling m plans.v

-- plans of the weight w: what they secure and concede, and how close that is
pub record AreStagePlans (m : Grid) (w : ℕ) (plans : StagePlans) : Type 0 where
  pub rows : IsWeighted m.rows w plans.p
  pub cols : IsWeighted m.cols w plans.v
  pub low : plans.low ≡ row_floor m plans.p
  pub high : plans.high ≡ col_ceiling m plans.v
  pub gap : HasSmallGap m w plans.low plans.high
  pub resolution : HasResolution m w plans.low plans.high
  pub small_low : unsigned_abs plans.low ≤ MOST_BOUND * w
  pub small_high : unsigned_abs plans.high ≤ MOST_BOUND * w

-- all of the weight w is on the row and on the column of the first saddle
pub record IsPureAtFirst (m : Grid) (w : ℕ) (plans : StagePlans) : Type 0 where
  pub row : ℕ
  pub col : ℕ
  pub first : IsFirstSaddle m row col
  pub rows : plans.p ≡ all_on m.rows row w
  pub cols : plans.v ≡ all_on m.cols col w

-- pure at the first saddle, if there is any
abbrev pub IsPureAtSaddle : Grid → ℕ → StagePlans → Type 0
IsPureAtSaddle m w plans = (a b : ℕ) → IsSaddle m a b → IsPureAtFirst m w plans

-- Ok takes one turn, and an error none, which is Spent exactly where no turn is left
pub record TakesTurn (old new : Budget) (result : Result StagePlans StageError) : Type 0 where
  pub ok : OnOk result (new ≡ after_one_turn old)
  pub err : OnErr result (new ≡ old)
  pub spent : (result ≡ Err Spent) ↔ (left_of old ≡ 0)
