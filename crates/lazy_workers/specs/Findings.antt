-- What is found of a game.
use Rattle.std.specs.Prelude.{◌≡◌, ℕ, ◌<◌, ◌≤◌, ℤ, pos, ◌-ℤ◌, ◌≤ℤ◌, ◌<ℤ◌, Bool, true, false, unsigned_abs, List, length, All, Contains}
use Rattle.sim_game.specs.declared.Side.{Side}
use Rattle.sim_game.specs.declared.Side.TheVariants.{One, Two}
use Rattle.sim_game.specs.Model.{GameModel}
use Rattle.sim_game.specs.Sides.{IsNoTighter, better, state_bound}
use Rattle.sim_game.specs.Resolution.{IsResolution}
use Rattle.plan_book.specs.declared.Sheet.{Sheet}
use Rattle.plan_book.specs.Expected.{Guarantees}
use Rattle.plan_book.specs.Sheets.{IsLawful, plan_of, root_bound}
use Rattle.plan_book.specs.Serial.{serial_bound}
use Rattle.fields.specs.declared.ask.Ask.{Ask}
use Rattle.shared_board.specs.Closing.{HasKey, kept_bound}
use Rattle.shared_board.specs.declared.close.Kept.{Kept}
use Rattle.lazy_workers.specs.declared.summary.Found.{Found}
use Rattle.lazy_workers.specs.declared.budgets.Begun.{Begun}
use Rattle.lazy_workers.specs.Keeping.{HasLimit, AreAllSpent, begun_whole, IsPureRow, IsSheetRowKept, AreOwed, AreRows}
use Rattle.lazy_workers.specs.Searched.{HasRoom, HasVisits, IsPureClose, TooFewAfter, TooFewTurns}

abbrev pub found_gap : Found → ℤ
found_gap x = x.upper -ℤ x.lower

-- the gap is above both what was asked and the resolution
pub record IsGapWide (ask : Ask) (x : Found) : Type 0 where
  pub asked : ask.gap <ℤ found_gap x
  pub resolution : x.resolution <ℤ found_gap x

-- a row of the board accounts for each row of the sheet, and the bound is that of the root's row, or of every value of the root where that is better
pub record IsPlanKept {S : Type 0} (m : GameModel S) (side : Side) (kept : List Kept) (sheet : Sheet) (bound : ℤ) : Type 0 where
  pub rows : All (IsSheetRowKept side kept) sheet.rows
  pub root : (row : Kept) → Contains kept row → row.key ≡ m.key m.root → bound ≡ better side (kept_bound side row) (state_bound m side m.root)

module _ {S : Type 0} (m : GameModel S) (ask : Ask) where
  -- a plan of the side, and the bound that it guarantees; where the search was idle, it plays one move at each state
  pub record IsFoundPlan (may_stop : Bool) (Idle : Type 0) (side : Side) (sheet : Sheet) (bound : ℤ) : Type 0 where
    pub side_is : sheet.side ≡ side
    pub total_is : sheet.total ≡ ask.weight
    pub lawful : IsLawful m sheet
    pub bound_is : bound ≡ root_bound m sheet
    pub guaranteed : Guarantees m side (plan_of sheet) bound
    pub small : unsigned_abs bound ≤ 4000000000
    pub few : length sheet.rows ≤ ask.rows
    pub alone : Idle → All (IsPureRow ask.weight) sheet.rows
    -- with a row for each state and a visit for each node of the tree, the bound is at least as tight as pure plans make it
    pub pure : HasRoom m ask → HasVisits m ask may_stop → IsNoTighter side (serial_bound m side m.root) bound

  -- no worker has spent a turn
  abbrev pub IsIdle : Found → Type 0
  IsIdle x = All (λ t. t.spent ≡ 0) x.turns

  -- all turns are spent, unless some may be given up; and where all are, they are too few for the game
  pub record AreSpent (may_stop : Bool) (Few : Type 0) (x : Found) : Type 0 where
    pub all : may_stop ≡ false → AreAllSpent ask x.turns
    pub too_few : AreAllSpent ask x.turns → Few

  -- a plan of each player, and the turns of each worker, no more than so many of which were spent before
  pub record IsFoundAfter (before : Begun) (Few : Type 0) (x : Found) : Type 0 where
    pub one : IsFoundPlan before.may_stop (IsIdle x) One x.one x.lower
    pub two : IsFoundPlan before.may_stop (IsIdle x) Two x.two x.upper
    pub resolution : (n : ℕ) × (x.resolution ≡ pos n) × IsResolution m ask.weight n
    pub resolution_high : x.resolution ≤ℤ pos 99999999999
    pub workers : length x.turns ≡ ask.workers
    pub within : All (HasLimit ask before.may_stop) x.turns
    -- where pure plans bring the bounds as close as was asked, no turn is spent
    pub at_once : HasRoom m ask → HasVisits m ask before.may_stop → IsPureClose m ask → All (λ t. t.spent ≤ before.spent) x.turns
    -- a full board is one of a game that has more states than it had rows
    pub full : x.was_full ≡ true → HasRoom m ask → ⊥
    -- what a wide gap is owed to where no search met a full board
    pub spent : x.was_full ≡ false → IsGapWide ask x → AreSpent before.may_stop Few x

  -- what is found of the game by the method that is asked, by a search that may be stopped or not
  abbrev pub IsFoundGame : Bool → Found → Type 0
  IsFoundGame may_stop x = IsFoundAfter (begun_whole may_stop) (TooFewTurns m ask) x

  -- what is found by double oracle, with what the closed board shows
  pub record IsFoundFor (before : Begun) (x : Found) : Type 0 where
    pub game : IsFoundAfter before (TooFewAfter before.spent m ask) x
    pub one_kept : IsPlanKept m One x.kept x.one x.lower
    pub two_kept : IsPlanKept m Two x.kept x.two x.upper
    pub rows : AreRows m ask.rows x.kept
    -- with a row left on the board, the root has one, and the turns that a wide gap is owed to are owed to rows
    pub rooted : 1 ≤ m.rank m.root → length x.kept < ask.rows → HasKey x.kept (m.key m.root)
    pub owed : x.was_full ≡ false → IsGapWide ask x → AreAllSpent ask x.turns → length x.kept < ask.rows
        → AreOwed m ask before.spent x.resolution x.kept
    -- a full board leaves no row
    pub full : x.was_full ≡ true → length x.kept ≡ ask.rows
