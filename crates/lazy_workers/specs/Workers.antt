-- What each worker begins with, and what it leaves.
use Rattle.std.specs.Prelude.{◌≡◌, ◌⊎◌, ℕ, ◌+◌, ◌<◌, ◌≤◌, ℤ, pos, ◌+ℤ◌, ◌≤ℤ◌, true, false, List, [], ◌∷◌, length, All}
use Rattle.sim_game.specs.declared.Side.{Side}
use Rattle.sim_game.specs.declared.Side.TheVariants.{One, Two}
use Rattle.sim_game.specs.Model.{GameModel}
use Rattle.sim_game.specs.Sides.{IsNoTighter, better, state_bound}
use Rattle.sim_game.specs.Resolution.{IsStageGap}
use Rattle.plan_book.specs.Entries.{IsPureEntry}
use Rattle.matrix_game.specs.Budget.{Budget}
use Rattle.bounds_board.specs.Views.{IsInnerKey}
use Rattle.fields.specs.declared.ask.Ask.{Ask}
use Rattle.fields.specs.Ranges.{IsAskInRange}
use Rattle.shared_board.specs.Rule.{Has}
use Rattle.shared_board.specs.Passes.{seen_by}
use Rattle.shared_board.specs.Values.{BoardValue, PassValue, IsPassOf}
use Rattle.shared_board.specs.Bare.{pass_of, IsSoundPass}
use Rattle.shared_board.specs.declared.view.View.{View}
use Rattle.shared_board.specs.declared.pass.BarePass.{BarePass}
use Rattle.oracle_search.specs.declared.ends.SearchEnd.TheVariants.{Full}
use Rattle.oracle_search.specs.Finished.{AreApart, rank_gap}
use Rattle.lazy_workers.specs.declared.jobs.Job.{Job}
use Rattle.lazy_workers.specs.declared.jobs.Done.{Done}
use Rattle.lazy_workers.specs.declared.budgets.Begun.{Begun}
use Rattle.lazy_workers.specs.Keeping.{HasLimit, owed_turns}
use Rattle.lazy_workers.specs.Searched.{HasFound}

-- ---- passes
-- a lead that has drawn and holds so many numbers
pub record IsLead {G : Type 0} (v : View G) (drawn held : ℕ) : Type 0 where
  pub leads : v.lead ≡ true
  pub draws : v.issued ≡ drawn
  pub holds : length v.tickets ≡ held

-- the lead's pass of the board, which has no entries yet
pub record IsNewLead {G : Type 0} (b : BoardValue G) (p : PassValue G) : Type 0 where
  pub ours : IsPassOf b p
  pub leads : p.view.lead ≡ true
  pub none : p.entries ≡ []

-- a pass of the board that holds one number and is not the lead's
pub record IsWorkerPass {S G : Type 0} (model : G → GameModel S) (b : BoardValue G) (p : BarePass G) : Type 0 where
  pub sound : IsSoundPass model p
  pub ours : IsPassOf b (pass_of p)
  pub leads : p.seat.me.0.lead ≡ false
  pub draws : p.seat.me.0.issued ≡ 0
  pub holds : length p.seat.me.0.tickets ≡ 1

-- what is known of rows: which row has which key
abbrev pub Rows : Type 1
Rows = ℕ → ℕ → Type 0

abbrev pub rows_of : {G : Type 0} → View G → Rows
rows_of v row key = Has (row, key) v.keys

-- a key of each row is known
abbrev pub KnowsEach : ℕ → Rows → Type 0
KnowsEach rows known = (row : ℕ) → row < rows → (key : ℕ) × known row key

-- ---- what a search leaves
-- by the bounds that are seen at each key: the better of those at the state and what holds of every value of it
abbrev pub known_of : {S : Type 0} → GameModel S → (Side → ℕ → ℤ) → S → Side → ℤ
known_of m seen s side = better side (seen side (m.key s)) (state_bound m side s)

-- the row of the key is known, which is that of a reachable state that is no end
pub record IsMetKey {S : Type 0} (m : GameModel S) (known : Rows) (key : ℕ) : Type 0 where
  pub named : IsInnerKey m key
  pub row : ℕ
  pub has_row : known row key

-- besides, the bounds known are as close as the rank of its state allows
pub record IsFinishedKey {S : Type 0} (m : GameModel S) (ask : Ask) (seen : Side → ℕ → ℤ) (known : Rows) (key : ℕ) : Type 0 where
  pub met : IsMetKey m known key
  pub close : (stage : ℕ) → IsStageGap m ask.weight stage
      → known_of m seen met.named.state Two ≤ℤ (known_of m seen met.named.state One +ℤ pos (rank_gap m stage (m.rank met.named.state)))

-- keys of such a kind, none twice
pub record AreKeysOf (Kind : ℕ → Type 0) (keys : List ℕ) : Type 0 where
  pub apart : AreApart keys
  pub each : All Kind keys

module _ {S : Type 0} (m : GameModel S) (ask : Ask) (before : Begun) where
  -- the turns of a worker, but for those that were spent before, are owed to states that it has met and to states that it
  -- has finished
  pub record AreOwedTo (seen : Side → ℕ → ℤ) (known : Rows) : Type 0 where
    pub met : List ℕ
    pub are_met : AreKeysOf (IsMetKey m known) met
    pub finished : List ℕ
    pub are_finished : AreKeysOf (IsFinishedKey m ask seen known) finished
    pub few : ask.turns ≤ before.spent + owed_turns m ask.stages (length met) (length finished)

  -- what is due where all turns were spent: the turns are owed to such states, unless a key of each row is known
  abbrev pub IsDueTo : (Side → ℕ → ℤ) → Rows → Type 0
  IsDueTo seen known = KnowsEach ask.rows known ⊎ AreOwedTo seen known

  -- what workers have found, by the bounds that are seen at each key and by the rows that are known
  abbrev pub HaveFound : (Side → ℕ → ℤ) → Rows → Type 0 → List Budget → Type 0
  HaveFound seen known Met turns =
      HasFound m ask before (known_of m seen m.root) (KnowsEach ask.rows known) (IsDueTo seen known)
      ((row : ℕ) × known row (m.key m.root)) Met turns

  -- the same by what a pass shows
  abbrev pub HasView : {G : Type 0} → View G → Type 0 → List Budget → Type 0
  HasView v Met turns = HaveFound (seen_by m v) (rows_of v) Met turns

module _ {S G : Type 0} (model : G → GameModel S) where
  -- the board is as was asked
  pub record IsBoardFor (g : G) (b : BoardValue G) (ask : Ask) : Type 0 where
    pub game : b.game ≡ g
    pub rows : b.rows ≡ ask.rows
    pub total : b.total ≡ ask.weight
    pub asked : IsAskInRange ask
    pub goes_on : 1 ≤ (model g).rank (model g).root

  -- a pass without entries, and turns of which no more than so many were spent
  pub record IsJob (b : BoardValue G) (ask : Ask) (before : Begun) (job : Job G) : Type 0 where
    pub pass : IsWorkerPass model b job.pass
    pub none : (pass_of job.pass).entries ≡ []
    pub limit : HasLimit ask before.may_stop job.turns
    pub begun : job.turns.spent ≤ before.spent

  pub record IsJobDone (g : G) (b : BoardValue G) (ask : Ask) (before : Begun) (d : Done G) : Type 0 where
    pub pass : IsWorkerPass model b d.pass
    pub found : HasView (model g) ask before d.pass.seat.me.0 (d.end ≡ Full) (d.turns ∷ [])
    pub alone : d.turns.spent ≡ 0 → All (IsPureEntry (model g) ask.weight) (pass_of d.pass).entries

  -- the bounds of the root are no looser than those that the worker has seen there
  abbrev pub IsNoLooser : G → (Side → ℤ) → Done G → Type 0
  IsNoLooser g bound d = (side : Side)
      → IsNoTighter side (seen_by (model g) d.pass.seat.me.0 side ((model g).key (model g).root)) (bound side)
