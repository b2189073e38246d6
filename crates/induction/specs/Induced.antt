-- What induction makes: lawful sheets of both sides.
use Rattle.std.specs.Prelude.{◌≡◌, ◌⊎◌, ℕ, ◌+◌, Bool, Result, Option, length, IfOk, IfErr, IfSome, IfNone}
use Rattle.sim_game.specs.declared.Side.{Side}
use Rattle.sim_game.specs.declared.Side.TheVariants.{One, Two}
use Rattle.sim_game.specs.declared.NoMemory.{NoMemory}
use Rattle.sim_game.specs.Model.{GameModel}
use Rattle.matrix_game.specs.Budget.{Budget, left_of}
use Rattle.plan_book.specs.declared.Sheet.{Sheet}
use Rattle.plan_book.specs.Sheets.{row_at, IsLawful, root_bound}
use Rattle.induction.specs.declared.gave_up.GaveUp.{GaveUp}
use Rattle.induction.specs.declared.gave_up.GaveUp.TheVariants as reasons
use Rattle.induction.specs.declared.induced.Induced.{Induced}
use Rattle.induction.specs.Certified.{HasBestBounds}
use Rattle.induction.specs.Planned.{HasEachRow}
use Rattle.induction.specs.Spent.{HasSpent, HasSpentEach, IsReason, IsStopped}
use Rattle.induction.specs.Undecided.{HasUndecided}

-- a lawful sheet of the side and the total, with a row for each undecided state that it comes to, and with the best bounds
-- that its weights prove
pub record IsSheetOf {S : Type 0} (m : GameModel S) (side : Side) (total : ℕ) (sheet : Sheet) : Type 0 where
  pub is_side : sheet.side ≡ side
  pub is_total : sheet.total ≡ total
  pub lawful : IsLawful m sheet
  pub best : HasBestBounds m sheet
  pub whole : HasEachRow m side (row_at sheet.rows)

-- one for each side, with what they guarantee at the root
pub record IsInduced {S : Type 0} (m : GameModel S) (total : ℕ) (found : Induced) : Type 0 where
  pub one : IsSheetOf m One total found.one
  pub two : IsSheetOf m Two total found.two
  pub lower : found.lower ≡ root_bound m found.one
  pub upper : found.upper ≡ root_bound m found.two

-- ---- the sheet of a side, and those of both
pub record IsOwnSheet {S : Type 0} (m : GameModel S) (side : Side) (total : ℕ) (old new : Budget) (result : Result Sheet GaveUp) : Type 0 where
  pub sheet : IfOk result (IsSheetOf m side total)
  pub undecided : IfOk result (λ x. HasUndecided m (length x.rows))
  pub spent : IfOk result (λ x. HasSpent 0 (length x.rows) old new)
  pub err : IfErr result (IsStopped m ⊥ 0 old new)

-- a side that had a turn for each state that there may be gave up for want of one: there are too many states
abbrev pub of_side : GaveUp → GaveUp
of_side reasons.TooManyStates = reasons.TooManyStates
of_side reasons.Spent = reasons.TooManyStates
of_side reasons.NoMemory = reasons.NoMemory

-- the turns of a side alone: one more than there may be states
abbrev pub own_turns : ℕ → Bool → Budget
own_turns rows may_stop = record { limit = rows + 1; spent = 0; may_stop = may_stop }

-- some undecided states have been planned at for each side, each for at most a turn
pub record HasPlanned {S : Type 0} (m : GameModel S) (old new : Budget) : Type 0 where
  pub one : ℕ
  pub two : ℕ
  pub one_undecided : HasUndecided m one
  pub two_undecided : HasUndecided m two
  pub spent : HasSpent 0 (one + two) old new

pub record AreBothSheets {S : Type 0} (m : GameModel S) (total rows : ℕ) (old new : Budget) (result : Result (Sheet × Sheet) GaveUp) : Type 0 where
  pub one : IfOk result (λ x. IsSheetOf m One total x.0)
  pub two : IfOk result (λ x. IsSheetOf m Two total x.1)
  pub few : IfOk result (λ x. HasSpent 0 (length x.0.rows + length x.1.rows) old new)
  pub planned : HasPlanned m old new
  pub err : IfErr result (IsReason (HasUndecided m (rows + 1)) new)

-- a function that may be called with all values and turns, and makes both sheets
pub record MakesBoth {S Known : Type 0} (m : GameModel S) (total rows : ℕ) (pre : Known → Budget → Type 0) (post : Known → Budget → Result (Sheet × Sheet) GaveUp × Budget → Type 0) : Type 0 where
  pub may_make : (known : Known) (turns : Budget) → pre known turns
  pub makes : (known : Known) (turns : Budget) (result : Result (Sheet × Sheet) GaveUp × Budget) → post known turns result → AreBothSheets m total rows turns result.1 result.0

-- ---- an induction
-- what an induction finds: none comes only where more than so many states are undecided, or where no turn is left
pub record IsInductionResult {S : Type 0} (m : GameModel S) (total rows : ℕ) (old new : Budget) (result : Result (Option Induced) NoMemory) : Type 0 where
  pub sheets : IfOk result (λ found. IfSome found (IsInduced m total))
  pub few : IfOk result (λ found. IfSome found (λ x. HasSpent 0 (rows + length x.one.rows + length x.two.rows) old new))
  pub none : IfOk result (λ found. IfNone found ((left_of new ≡ 0) ⊎ HasUndecided m (rows + 1)))
  pub spent : HasSpentEach m 3 old new
