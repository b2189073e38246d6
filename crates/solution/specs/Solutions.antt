-- What a report says of a game.
use Rattle.std.specs.Prelude.{◌≡◌, ℕ, ◌<◌, ◌≤◌, Bool, true, false, pos, ◌≤ℤ◌, List, length, map, All, Contains}
use Rattle.sim_game.specs.declared.Side.TheVariants.{One, Two}
use Rattle.sim_game.specs.declared.Limits.TheVariants.{Narrow}
use Rattle.sim_game.specs.Model.{GameModel}
use Rattle.sim_game.specs.Sides.{better, state_bound}
use Rattle.sim_game.specs.Resolution.{IsResolution}
use Rattle.plan_book.specs.Expected.{Guarantees}
use Rattle.plan_book.specs.Sheets.{IsLawful, plan_of, root_bound}
use Rattle.plan_book.specs.Serial.{serial_bound}
use Rattle.fields.specs.declared.ask.Ask.{Ask}
use Rattle.certificate.specs.declared.report.Outcome.{Outcome}
use Rattle.certificate.specs.declared.report.Outcome.TheVariants.{Closed, Spent, Full, Stopped}
use Rattle.fields.specs.declared.positions.PositionText.{PositionText}
use Rattle.certificate.specs.declared.report.Report.{Report}
use Rattle.fields.specs.Positions.{is_narrow}
use Rattle.certificate.specs.Versions.{most_moves}
use Rattle.certificate.specs.Outcomes.{IsAllowed}
use Rattle.certificate.specs.Ranges.{IsInRange}
use Rattle.shared_board.specs.declared.close.Kept.{Kept}
use Rattle.shared_board.specs.Closing.{HasKey}
use Rattle.matrix_game.specs.Budget.{Budget}
use Rattle.lazy_workers.specs.declared.summary.Found.{Found}
use Rattle.lazy_workers.specs.Findings.{found_gap}
use Rattle.lazy_workers.specs.Keeping.{HasLimit, AreAllSpent, IsPureRow, IsSheetRowKept, AreOwed, AreRows}
use Rattle.solution.specs.declared.report.Solved.{Solved}
use Rattle.solution.specs.Outcomes.{IsOutcomeFor}
use Rattle.lazy_workers.specs.Searched.{HasRoom, HasVisits, IsPureClose, TooFewTurns}

-- how many turns each worker has spent
abbrev pub spent_of : List Budget → List ℕ
spent_of turns = map (λ t. t.spent) turns

-- the report of what was found, with the outcome
abbrev pub report_with : PositionText → Ask → Found → Outcome → Report
report_with text ask x outcome = record {
  position = text;
  weight = ask.weight;
  turns = ask.turns;
  asked = ask.gap;
  resolution = x.resolution;
  outcome = outcome;
  lower = x.lower;
  upper = x.upper;
  spent = spent_of x.turns;
  one = x.one;
  two = x.two;
}

-- what was found is reported, with the outcome of its gap
pub record IsReportOf (text : PositionText) (ask : Ask) (x : Found) (s : Solved) : Type 0 where
  pub outcome : Outcome
  pub is_outcome : IsOutcomeFor (found_gap x) ask.gap x.resolution x.was_full (AreAllSpent ask x.turns) outcome
  pub is_solved : s ≡ record { report = report_with text ask x outcome; turns = x.turns; kept = x.kept }

-- a game of a position within the narrow limits has no more moves of a side than these allow
abbrev pub HasWidthOf : {S : Type 0} → GameModel S → PositionText → Type 0
HasWidthOf m text = is_narrow text ≡ true → m.width ≤ most_moves Narrow

-- the report tells what was asked
pub record IsOfAsk (text : PositionText) (ask : Ask) (r : Report) : Type 0 where
  pub position : r.position ≡ text
  pub weight : r.weight ≡ ask.weight
  pub turns : r.turns ≡ ask.turns
  pub asked : r.asked ≡ ask.gap
  pub workers : length r.spent ≡ ask.workers

-- the report is one that a search of the game may give, by a gate that may stop it or not
pub record IsSolution {S : Type 0} (m : GameModel S) (text : PositionText) (ask : Ask) (may_stop : Bool) (r : Report) : Type 0 where
  pub of_ask : IsOfAsk text ask r
  pub in_range : IsInRange r
  pub resolution : (n : ℕ) × (r.resolution ≡ pos n) × IsResolution m ask.weight n
  pub outcome : IsAllowed r
  -- no worker has spent more turns than were asked
  pub within : All (λ n. n ≤ ask.turns) r.spent
  -- where none has spent a turn, both plans play one move at each state
  pub alone : All (λ n. n ≡ 0) r.spent → All (IsPureRow r.weight) r.one.rows × All (IsPureRow r.weight) r.two.rows
  -- the plans, and what they guarantee
  pub one_lawful : IsLawful m r.one
  pub two_lawful : IsLawful m r.two
  pub lower : r.lower ≡ root_bound m r.one
  pub upper : r.upper ≡ root_bound m r.two
  pub lower_guaranteed : Guarantees m One (plan_of r.one) r.lower
  pub upper_guaranteed : Guarantees m Two (plan_of r.two) r.upper
  pub one_few : length r.one.rows ≤ ask.rows
  pub two_few : length r.two.rows ≤ ask.rows
  -- what an outcome short of the resolution is owed to
  pub full : r.outcome ≡ Full → HasRoom m ask → ⊥
  pub spent : r.outcome ≡ Spent → TooFewTurns m ask
  pub stopped : r.outcome ≡ Stopped → may_stop ≡ true
  -- with a row for each state and a visit for each node of the tree
  pub pure_lower : HasRoom m ask → HasVisits m ask may_stop → serial_bound m One m.root ≤ℤ r.lower
  pub pure_upper : HasRoom m ask → HasVisits m ask may_stop → r.upper ≤ℤ serial_bound m Two m.root
  pub at_once : HasRoom m ask → HasVisits m ask may_stop → IsPureClose m ask
      → (r.outcome ≡ Closed) × All (λ n. n ≡ 0) r.spent

-- what the rows show of an outcome short of the resolution
pub record IsLeft {S : Type 0} (m : GameModel S) (ask : Ask) (r : Report) (kept : List Kept) : Type 0 where
  pub rows : AreRows m ask.rows kept
  -- with a row left on the board, the root has one
  pub rooted : 1 ≤ m.rank m.root → length kept < ask.rows → HasKey kept (m.key m.root)
  pub full : r.outcome ≡ Full → length kept ≡ ask.rows
  pub spent : r.outcome ≡ Spent → length kept < ask.rows → AreOwed m ask 0 r.resolution kept

-- what is told of a game: a report that is a solution, the turns of each worker, and the rows of the closed board
pub record IsSolvedGame {S : Type 0} (m : GameModel S) (text : PositionText) (ask : Ask) (x : Solved) : Type 0 where
  pub solution : IsSolution m text ask false x.report
  pub within : All (HasLimit ask false) x.turns
  -- the report tells how many of its turns each worker has spent
  pub spent : x.report.spent ≡ spent_of x.turns
  pub one_kept : All (IsSheetRowKept One x.kept) x.report.one.rows
  pub two_kept : All (IsSheetRowKept Two x.kept) x.report.two.rows
  pub left : IsLeft m ask x.report x.kept
  -- the bounds of the report are those of the root's row, or of every value of the root where these are better
  pub root : (row : Kept) → Contains x.kept row → row.key ≡ m.key m.root
      → (x.report.lower ≡ better One row.lower (state_bound m One m.root))
      × (x.report.upper ≡ better Two row.upper (state_bound m Two m.root))
