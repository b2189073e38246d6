-- What calls answer in numbers, in their caller's memory.
use Rattle.std.specs.Prelude.{◌≡◌, ℕ, ◌^◌, ℤ, pos, ◌+ℤ◌, ◌*ℤ◌, false, nat_eq, if◌then◌else◌, Option, None, Some, Ok, Err, List, length, map, flat_map}
use Rattle.sim_game.specs.declared.Side.{Side}
use Rattle.sim_game.specs.declared.Side.TheVariants.{One, Two}
use Rattle.plan_book.specs.declared.SheetRow.{SheetRow}
use Rattle.plan_book.specs.Sheets.{row_at}
use Rattle.exploit.specs.declared.Worth.{Worth}
use Rattle.exploit.specs.declared.Worth.TheVariants.{Exact, Between}
use Rattle.exploit.specs.declared.WorstCase.{WorstCase}
use Rattle.exploit.specs.Replies.{HasMore, IsWorstCase}
use Rattle.exploit.specs.Worst.{IsWorst}
use Rattle.certificate.specs.declared.error.TextError.TheVariants as texts
use Rattle.certificate.specs.declared.report.Report.{Report}
use Rattle.certificate.specs.Ranges.{IsInRange}
use Rattle.position.specs.declared.games.InputError.{InputError}
use Rattle.position.specs.declared.games.InputError.TheVariants as errors
use Rattle.position.specs.Games.{OfGame}
use Rattle.position.specs.Position.{position_of}
use Rattle.commands.specs.declared.reports.ReportFault.{ReportFault}
use Rattle.commands.specs.declared.reports.ReportFault.TheVariants as faults
use Rattle.commands.specs.Alone.{IsFoundReport}
use Rattle.commands.specs.Checks.{report_in}
use Rattle.commands.specs.Measured.{most_states, sheet_of}
use Rattle.commands.specs.Runs.{status_of}
use Rattle.dosolve_c.specs.declared.plans.RootBounds.{RootBounds}
use Rattle.dosolve_c.specs.declared.plans.PlanRow.{PlanRow}
use Rattle.dosolve_c.specs.declared.plans.PlanSize.{PlanSize}
use Rattle.dosolve_c.specs.declared.plans.WorstPayoff.{WorstPayoff}
use Rattle.dosolve_c.specs.Calls.{put_over}

-- ---- what is asked for
abbrev pub side_at : ℕ → Option Side
side_at side = if nat_eq side 0 then Some One else (if nat_eq side 1 then Some Two else None)

-- the report of the bytes
pub record IsReportIn (bytes : List ℕ) (r : Report) : Type 0 where
  pub is : report_in bytes ≡ Ok r
  pub in_range : IsInRange r

-- and the side of the number
pub record IsPlanIn (side : ℕ) (bytes : List ℕ) (s : Side) (r : Report) : Type 0 where
  pub side_is : side_at side ≡ Some s
  pub report : IsReportIn bytes r

-- ---- what is wrong
abbrev pub status_of_fault : ReportFault → ℕ
status_of_fault (faults.Text texts.NoMemory) = 8
status_of_fault fault = 9

-- the bytes are no report whose position has a game, or memory is wanting
pub data IsUnread (bytes : List ℕ) : ℕ → Type 0 where
  fault : (f : ReportFault) → report_in bytes ≡ Err f → IsUnread bytes 9
  no_memory : IsUnread bytes 8

-- or there is no such side
pub data IsFault (side : ℕ) (bytes : List ℕ) : ℕ → Type 0 where
  no_side : side_at side ≡ None → IsFault side bytes 1
  unread : (status : ℕ) → IsUnread bytes status → IsFault side bytes status

-- ---- the bounds of a root
abbrev pub status_of_refusal : InputError → ℕ
status_of_refusal errors.NoMemory = 8
status_of_refusal error = 2

abbrev pub bounds_told : Report → RootBounds
bounds_told r = record { lower = r.lower; upper = r.upper; resolution = r.resolution }

pub data IsRootTold (bytes : List ℕ) (root root' : RootBounds) : ℕ → Type 0 where
  found : (r : Report) → IsFoundReport false bytes r → root' ≡ bounds_told r → IsRootTold bytes root root' (status_of r.outcome)
  refused : (e : InputError) → position_of bytes ≡ Err e → root' ≡ root → IsRootTold bytes root root' 2
  no_memory : root' ≡ root → IsRootTold bytes root root' 8

-- ---- a row of a plan
abbrev pub row_told : SheetRow → PlanRow
row_told r = record { key = r.key; bound = r.bound; moves = length r.weights }

-- the weights and the row before and after
pub data IsRowTold (side key : ℕ) (bytes weights weights' : List ℕ) (row row' : PlanRow) : ℕ → Type 0 where
  found : (s : Side) (r : Report) (at : SheetRow) → IsPlanIn side bytes s r → row_at (sheet_of s r).rows key ≡ Some at
      → weights' ≡ put_over at.weights weights → row' ≡ row_told at → IsRowTold side key bytes weights weights' row row' 0
  no_row : (s : Side) (r : Report) → IsPlanIn side bytes s r → row_at (sheet_of s r).rows key ≡ None
      → weights' ≡ weights → row' ≡ record { key = key; bound = pos 0; moves = 0 } → IsRowTold side key bytes weights weights' row row' 0
  fault : (status : ℕ) → IsFault side bytes status → weights' ≡ weights → row' ≡ row
      → IsRowTold side key bytes weights weights' row row' status

-- ---- a plan
abbrev pub weights_in : List SheetRow → List ℕ
weights_in rows = flat_map (λ r. r.weights) rows

abbrev pub size_told : List SheetRow → ℕ → PlanSize
size_told rows total = record { rows = length rows; weights = length (weights_in rows); total = total }

pub data IsPlanTold (side : ℕ) (bytes : List ℕ) (rows rows' : List PlanRow) (weights weights' : List ℕ) (size size' : PlanSize) : ℕ → Type 0 where
  found : (s : Side) (r : Report) → IsPlanIn side bytes s r → rows' ≡ put_over (map row_told (sheet_of s r).rows) rows
      → weights' ≡ put_over (weights_in (sheet_of s r).rows) weights → size' ≡ size_told (sheet_of s r).rows (sheet_of s r).total
      → IsPlanTold side bytes rows rows' weights weights' size size' 0
  fault : (status : ℕ) → IsFault side bytes status → rows' ≡ rows → weights' ≡ weights → size' ≡ size
      → IsPlanTold side bytes rows rows' weights weights' size size' status

-- ---- the best replies to a plan
-- 64 upper bits with a sign, and 64 lower ones
pub record IsSplit (whole upper : ℤ) (lower : ℕ) : Type 0 where
  pub is : whole ≡ (pos (2 ^ 64) *ℤ upper) +ℤ pos lower

-- what is not told is 0
pub record IsExactTold (amount : ℤ) (base power : ℕ) (told : WorstPayoff) : Type 0 where
  pub exact : told.exact ≡ 1
  pub sum : IsSplit amount told.sum_high told.sum_low
  pub base_is : told.base ≡ base
  pub power_is : told.power ≡ power
  pub low_not_told : told.low ≡ pos 0
  pub high_not_told : told.high ≡ pos 0

pub record IsBetweenTold (low high : ℤ) (told : WorstPayoff) : Type 0 where
  pub exact : told.exact ≡ 0
  pub low_is : told.low ≡ low
  pub high_is : told.high ≡ high
  pub sum_high_not_told : told.sum_high ≡ pos 0
  pub sum_low_not_told : told.sum_low ≡ 0
  pub base_not_told : told.base ≡ 0
  pub power_not_told : told.power ≡ 0

abbrev pub IsWorthTold : Worth → WorstPayoff → Type 0
IsWorthTold (Exact amount base power) told = IsExactTold amount base power told
IsWorthTold (Between low high) told = IsBetweenTold low high told

-- the worst case of the plan of the side, which no plan of the other side undercuts
abbrev pub IsWorstOf : Side → Report → WorstCase → Type 0
IsWorstOf s r case = OfGame r.position (λ S m. IsWorstCase m (sheet_of s r) (most_states r) case × IsWorst m (sheet_of s r))

-- the plan of the side comes to too many states
abbrev pub HasTooMany : Side → Report → Type 0
HasTooMany s r = OfGame r.position (λ S m. HasMore m (sheet_of s r) (most_states r))

-- or memory is wanting
pub data IsUnmeasured (s : Side) (r : Report) : ℕ → Type 0 where
  full : HasTooMany s r → IsUnmeasured s r 5
  no_memory : IsUnmeasured s r 8

-- the numbers of a worst case
pub record IsCaseTold (case : WorstCase) (told : WorstPayoff) : Type 0 where
  pub worth : IsWorthTold case.worth told
  pub replies : told.replies ≡ length case.reply

pub data AreRepliesTold (side : ℕ) (bytes keys keys' moves moves' : List ℕ) (worst worst' : WorstPayoff) : ℕ → Type 0 where
  -- replies that bring about the worst case
  found : (s : Side) (r : Report) (case : WorstCase) → IsPlanIn side bytes s r → IsWorstOf s r case
      → keys' ≡ put_over (map (λ x. x.key) case.reply) keys → moves' ≡ put_over (map (λ x. x.place) case.reply) moves
      → IsCaseTold case worst' → AreRepliesTold side bytes keys keys' moves moves' worst worst' 0
  full : (s : Side) (r : Report) → IsPlanIn side bytes s r → HasTooMany s r
      → keys' ≡ keys → moves' ≡ moves → worst' ≡ worst → AreRepliesTold side bytes keys keys' moves moves' worst worst' 5
  fault : (status : ℕ) → IsFault side bytes status → keys' ≡ keys → moves' ≡ moves → worst' ≡ worst
      → AreRepliesTold side bytes keys keys' moves moves' worst worst' status

-- ---- the worst cases of both plans
-- the numbers of the worst case of the plan of the side
pub record IsWorstTold (s : Side) (r : Report) (told : WorstPayoff) : Type 0 where
  pub case : WorstCase
  pub is_worst : IsWorstOf s r case
  pub numbers : IsCaseTold case told

pub data AreWorstTold (bytes : List ℕ) (one one' two two' : WorstPayoff) : ℕ → Type 0 where
  found : (r : Report) → IsReportIn bytes r → IsWorstTold One r one' → IsWorstTold Two r two'
      → AreWorstTold bytes one one' two two' 0
  -- the plan of a side comes to too many states
  full : (s : Side) (r : Report) → IsReportIn bytes r → HasTooMany s r → one' ≡ one → two' ≡ two
      → AreWorstTold bytes one one' two two' 5
  fault : (status : ℕ) → IsUnread bytes status → one' ≡ one → two' ≡ two → AreWorstTold bytes one one' two two' status
