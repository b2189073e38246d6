-- The rows of the closed board, and the finished states among them.
use Rattle.std.specs.Prelude.{◌≡◌, ℕ, ◌+◌, ◌*◌, ◌≤◌, ℤ, pos, ◌-ℤ◌, ◌*ℤ◌, ◌≤ℤ◌, Bool, false, List, [], length, All, Contains}
use Rattle.sim_game.specs.Model.{GameModel, IsEnd}
use Rattle.sim_game.specs.Sides.{better, state_bound}
use Rattle.bounds_board.specs.Views.{IsInnerKey, IsEnclosure}
use Rattle.matrix_game.specs.Budget.{Budget}
use Rattle.shared_board.specs.declared.close.Kept.{Kept}
use Rattle.shared_board.specs.Closing.{IsDistinct, HasKey, kept_bound}
use Rattle.plan_book.specs.declared.SheetRow.{SheetRow}
use Rattle.plan_book.specs.Plans.{one_move}
use Rattle.sim_game.specs.declared.Side.{Side}
use Rattle.sim_game.specs.declared.Side.TheVariants.{One, Two}
use Rattle.fields.specs.declared.ask.Ask.{Ask}
use Rattle.fields.specs.declared.ask.StageMethod.{StageMethod}
use Rattle.fields.specs.declared.ask.StageMethod.TheVariants.{Regret, Linear}
use Rattle.oracle_search.specs.Searches.{growth_turns}
use Rattle.lazy_workers.specs.declared.budgets.Begun.{Begun}

-- ---- turns
-- how many turns double oracle may take at a state: with regret matching as many as a restricted game that grows, with linear stages one in each of
-- three sweeps
abbrev pub oracle_turns : {S : Type 0} → GameModel S → StageMethod → ℕ
oracle_turns m Regret = growth_turns m
oracle_turns m Linear = 3

-- how many turns are owed to rows, so many of states that were met and so many of finished ones: with regret matching those of a
-- restricted game at each finished state and at each on the way to the root; with linear stages one of each of two sweeps at each
-- state that was met, and one of the last sweep at each finished state
abbrev pub owed_turns : {S : Type 0} → GameModel S → StageMethod → ℕ → ℕ → ℕ
owed_turns m Regret met finished = growth_turns m * (finished + m.rank m.root)
owed_turns m Linear met finished = 2 * met + finished

-- the turns are those asked, but for some that were given up where they may be, and no more were spent
pub record HasLimit (ask : Ask) (may_stop : Bool) (t : Budget) : Type 0 where
  pub may : t.may_stop ≡ may_stop
  pub no_more : t.limit ≤ ask.turns
  pub whole : may_stop ≡ false → t.limit ≡ ask.turns
  pub spent : t.spent ≤ t.limit

-- a budget for each worker, with those asked, of which no more than so many were spent before
pub record AreBudgets (ask : Ask) (before : Begun) (turns : List Budget) : Type 0 where
  pub count : length turns ≡ ask.workers
  pub each : All (HasLimit ask before.may_stop) turns
  pub begun : All (λ t. t.spent ≤ before.spent) turns

-- what budgets begin with of which none was spent before, and those of which the first worker has spent some
abbrev pub begun_whole : Bool → Begun
begun_whole may_stop = record { spent = 0; may_stop = may_stop }

abbrev pub begun_by : Budget → Begun
begun_by first = record { spent = first.spent; may_stop = first.may_stop }

-- each worker has spent all the turns that were asked
abbrev pub AreAllSpent : Ask → List Budget → Type 0
AreAllSpent ask turns = All (λ t. t.spent ≡ ask.turns) turns

-- ---- rows
-- a row of the sheet is kept: its key has a row, with its bound on its side
pub record IsSheetRowKept (side : Side) (kept : List Kept) (r : SheetRow) : Type 0 where
  pub held : HasKey kept r.key
  pub bound : kept_bound side held.row ≡ r.bound

-- some of the rows, none twice
pub record AreAmong (kept some : List Kept) : Type 0 where
  pub among : All (Contains kept) some
  pub distinct : IsDistinct some

-- the row plays one move alone
pub record IsPureRow (total : ℕ) (r : SheetRow) : Type 0 where
  pub place : ℕ
  pub pure : r.weights ≡ one_move total (length r.weights) place

module _ {S : Type 0} (m : GameModel S) where
  -- the key is that of a reachable state that is no end; both bounds there are backed, and in the range of payoffs
  pub record IsKeptState (x : Kept) : Type 0 where
    pub named : IsInnerKey m x.key
    pub bounds : IsEnclosure m x.lower x.upper named.state

  -- how far the bounds of the row are apart, or those of every value of the state where they are better
  abbrev pub known_gap : Kept → S → ℤ
  known_gap x s = better Two x.upper (state_bound m Two s) -ℤ better One x.lower (state_bound m One s)

  -- besides, they are no further apart than the resolution's share of the state's rank
  pub record IsFinishedRow (resolution : ℤ) (x : Kept) : Type 0 where
    pub named : IsInnerKey m x.key
    pub close : (pos (m.rank m.root) *ℤ known_gap x named.state) ≤ℤ (pos (m.rank named.state) *ℤ resolution)

  -- the turns, but for those that were spent before, are owed to rows of states that were met and to rows of finished ones,
  -- with regret matching also to the states on the way to the root
  pub record AreOwed (ask : Ask) (before : ℕ) (resolution : ℤ) (kept : List Kept) : Type 0 where
    pub met : List Kept
    pub are_met : AreAmong kept met
    pub finished : List Kept
    pub are_finished : AreAmong kept finished
    pub each : All (IsFinishedRow resolution) finished
    pub few : ask.turns ≤ before + owed_turns m ask.stages (length met) (length finished)

  -- the rows of a board that was made for a root that is no end
  pub record AreRows (rows : ℕ) (kept : List Kept) : Type 0 where
    pub none : IsEnd m m.root → kept ≡ []
    pub few : length kept ≤ rows
    pub distinct : IsDistinct kept
    pub each : All IsKeptState kept
