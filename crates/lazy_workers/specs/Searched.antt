-- What all workers together have found of a game.
use Rattle.std.specs.Prelude.{◌≡◌, ℕ, ◌+◌, ◌*◌, ◌<◌, ◌≤◌, ℤ, pos, ◌+ℤ◌, ◌-ℤ◌, ◌≤ℤ◌, ◌<ℤ◌, Bool, true, false, Option, Some, List, length, All}
use Rattle.sim_game.specs.declared.Side.{Side}
use Rattle.sim_game.specs.declared.Side.TheVariants.{One, Two}
use Rattle.sim_game.specs.Model.{GameModel, HasAtMost}
use Rattle.sim_game.specs.Sides.{IsNoTighter}
use Rattle.sim_game.specs.Resolution.{IsResolution}
use Rattle.plan_book.specs.Entries.{IsPureEntry}
use Rattle.plan_book.specs.declared.Entry.{Entry}
use Rattle.plan_book.specs.Books.{IsClosed, book_bound}
use Rattle.plan_book.specs.Serial.{serial_bound, tree_size}
use Rattle.matrix_game.specs.Budget.{Budget}
use Rattle.shared_board.specs.Closing.{HasKey, IsKeptRow}
use Rattle.shared_board.specs.declared.close.Kept.{Kept}
use Rattle.fields.specs.declared.ask.Ask.{Ask}
use Rattle.fields.specs.declared.ask.StageMethod.{StageMethod}
use Rattle.fields.specs.declared.ask.SearchMethod.{SearchMethod}
use Rattle.fields.specs.declared.ask.SearchMethod.TheVariants.{Oracle, Induction}
use Rattle.lazy_workers.specs.declared.budgets.Begun.{Begun}
use Rattle.lazy_workers.specs.Keeping.{HasLimit, AreAllSpent, oracle_turns, AreOwed, AreRows}

-- each entry's key is that of one of so many rows
pub record HasKeysIn (rows : ℕ) (entries : List Entry) : Type 0 where
  pub key_at : ℕ → Option ℕ
  pub held : All (λ e. (row : ℕ) × (row < rows) × (key_at row ≡ Some e.key)) entries

-- further apart than what was asked and than the resolution
pub record IsFar {S : Type 0} (m : GameModel S) (ask : Ask) (gap : ℤ) : Type 0 where
  pub asked : ask.gap <ℤ gap
  pub resolution : (n : ℕ) → IsResolution m ask.weight n → pos n <ℤ gap

-- the board has a row for each state
abbrev pub HasRoom : {S : Type 0} → GameModel S → Ask → Type 0
HasRoom m ask = HasAtMost m ask.rows

-- no serial search is stopped, and each may enter each node of the tree
abbrev pub HasVisits : {S : Type 0} → GameModel S → Ask → Bool → Type 0
HasVisits m ask may_stop = (may_stop ≡ false) × (tree_size m m.root ≤ ask.visits)

-- pure plans alone bring the bounds as close as was asked
abbrev pub IsPureClose : {S : Type 0} → GameModel S → Ask → Type 0
IsPureClose m ask = serial_bound m Two m.root ≤ℤ (serial_bound m One m.root +ℤ ask.gap)

-- how many turns a search by the methods may take at a state: those of double oracle, and three before these by induction
abbrev pub turns_each : {S : Type 0} → GameModel S → StageMethod → SearchMethod → ℕ
turns_each m stages Oracle = oracle_turns m stages
turns_each m stages Induction = 3 + oracle_turns m stages

-- too few turns, where so many were spent before, for a game of any number of states that the board has rows for
abbrev pub TooFewAfter : {S : Type 0} → ℕ → GameModel S → Ask → Type 0
TooFewAfter before m ask = (n : ℕ) → HasAtMost m n → n ≤ ask.rows
    → ask.turns < before + oracle_turns m ask.stages * (n + m.rank m.root + 1)

-- too few turns for such a game
abbrev pub TooFewTurns : {S : Type 0} → GameModel S → Ask → Type 0
TooFewTurns m ask = (n : ℕ) → HasAtMost m n → n ≤ ask.rows
    → ask.turns < turns_each m ask.stages ask.search * (n + m.rank m.root + 1)

-- what searches of the root have found together, by the bounds that are known of it: the turns of each, of which no more
-- than so many were spent before; what a search
-- that met a full board shows of it; what is due where none did and all turns were spent; that the root has a row
pub record HasFound {S : Type 0} (m : GameModel S) (ask : Ask) (before : Begun) (bound : Side → ℤ) (IsFull IsDue HasRow Met : Type 0)
    (turns : List Budget) : Type 0 where
  pub within : All (HasLimit ask before.may_stop) turns
  pub full : Met → IsFull × (HasRoom m ask → ⊥)
  pub rowed : (Met → ⊥) → 1 ≤ length turns → HasRow
  -- as long as the bounds are far apart, all turns were spent, unless some may be given up
  pub all_spent : (Met → ⊥) → IsFar m ask (bound Two -ℤ bound One) → before.may_stop ≡ false → AreAllSpent ask turns
  pub due : (Met → ⊥) → IsFar m ask (bound Two -ℤ bound One) → AreAllSpent ask turns → 1 ≤ length turns
      → TooFewAfter before.spent m ask × IsDue
  pub pure : HasRoom m ask → HasVisits m ask before.may_stop → 1 ≤ length turns
      → (side : Side) → IsNoTighter side (serial_bound m side m.root) (bound side)
  pub at_once : HasRoom m ask → HasVisits m ask before.may_stop → IsPureClose m ask → All (λ t. t.spent ≤ before.spent) turns

-- with a row left on the board, the turns are owed to rows that are kept
abbrev pub IsOwed : {S : Type 0} → GameModel S → Ask → ℕ → List Kept → Type 0
IsOwed m ask before kept = (n : ℕ) → IsResolution m ask.weight n → length kept < ask.rows → AreOwed m ask before (pos n) kept

-- a root that is no end has a row
abbrev pub IsRooted : {S : Type 0} → GameModel S → List Kept → Type 0
IsRooted m kept = 1 ≤ m.rank m.root → HasKey kept (m.key m.root)

-- the entries of all workers, the rows of the closed board, the turns of each worker, and whether a search of one ended
-- at a full board
pub record IsSearched {S : Type 0} (m : GameModel S) (ask : Ask) (before : Begun) (entries : List Entry) (kept : List Kept)
    (turns : List Budget) (was_full : Bool) : Type 0 where
  pub closed : IsClosed m ask.weight entries
  pub held : HasKeysIn ask.rows entries
  pub rows : AreRows m ask.rows kept
  pub entered : All (λ e. HasKey kept e.key) entries
  pub best : All (IsKeptRow m entries) kept
  pub workers : length turns ≡ ask.workers
  pub found : HasFound m ask before (λ side. book_bound m entries side m.root) (length kept ≡ ask.rows) (IsOwed m ask before.spent kept)
      (IsRooted m kept) (was_full ≡ true) turns
  -- where no turn was spent, only pure plans were posted
  pub alone : All (λ t. t.spent ≡ 0) turns → All (IsPureEntry m ask.weight) entries

-- what is found where the one is asked answers the other too
abbrev pub AnswersToo : {S : Type 0} → GameModel S → Ask → Ask → Type 0
AnswersToo m ask other = (before : Begun) (entries : List Entry) (kept : List Kept) (turns : List Budget) (was_full : Bool)
    → IsSearched m ask before entries kept turns was_full → IsSearched m other before entries kept turns was_full
