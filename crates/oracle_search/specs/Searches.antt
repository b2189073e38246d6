-- What a search keeps, and how it ends.
use Rattle.std.specs.Prelude.{◌≡◌, ◌⊎◌, ℕ, ◌+◌, ◌-◌, ◌*◌, ◌<◌, ◌≤◌, ℤ, ◌+ℤ◌, ◌≤ℤ◌, ◌<ℤ◌, Bool, true, false, IsTrue, Option, None, Some, Result, Ok, Err, IfOk, length}
use Rattle.sim_game.specs.declared.Side.{Side}
use Rattle.sim_game.specs.declared.Side.TheVariants.{One, Two}
use Rattle.sim_game.specs.Model.{GameModel, LeadsTo, Reachable}
use Rattle.sim_game.specs.Sides.{IsNoTighter}
use Rattle.plan_book.specs.Entries.{IsPureEntry}
use Rattle.plan_book.specs.Books.{Grows}
use Rattle.plan_book.specs.Serial.{serial_bound, tree_size}
use Rattle.matrix_game.specs.Budget.{Budget, left_of, after_one_turn, IsSameBudget}
use Rattle.bounds_board.specs.declared.bounds.BoardFault.{BoardFault}
use Rattle.bounds_board.specs.declared.bounds.BoardFault.TheVariants as board_faults
use Rattle.bounds_board.specs.Views.{BoardView, WasFull, known_bound}
use Rattle.serial_ab.specs.Counts.{VisitsView, HasCounted, left_on}
use Rattle.serial_ab.specs.Transpositions.{AreRemembered}
use Rattle.restricted_game.specs.Children.{KeptRows, HasRow, AreChildRows}
use Rattle.restricted_game.specs.declared.held.StepEnd.{StepEnd}
use Rattle.restricted_game.specs.declared.held.StepFault.{StepFault}
use Rattle.restricted_game.specs.declared.held.StepFault.TheVariants as faults
use Rattle.restricted_game.specs.Held.{HeldMoves, count_held}
use Rattle.restricted_game.specs.Nodes.{IsBetter}
use Rattle.serial_ab.specs.declared.windowed.SerialEnd.{SerialEnd}
use Rattle.serial_ab.specs.declared.windowed.SerialEnd.TheVariants.{Exact, AtLeast, AtMost, Cut}
use Rattle.oracle_search.specs.declared.ends.SearchEnd.{SearchEnd}
use Rattle.oracle_search.specs.declared.ends.SearchEnd.TheVariants.{Reached, Settled, Spent, Full}
use Rattle.oracle_search.specs.declared.ends.Stop.{Stop}
use Rattle.oracle_search.specs.declared.ends.Stop.TheVariants as stops
use Rattle.oracle_search.specs.Workers.{WorkerView, WorkView}
use Rattle.oracle_search.specs.Finished.{IsWithin, IsBeyond, IsClose, AreFinished, IsExtended}

-- turns were taken, within the limit, and none where none was left; those that are left were given up at most where they may be
pub record HasTurned (old new : Budget) : Type 0 where
  pub limit : IsSameBudget old new
  pub rises : old.spent ≤ new.spent
  pub within : old.spent ≤ old.limit → new.spent ≤ new.limit
  pub none : left_of old ≡ 0 → new.spent ≡ old.spent

-- a turn was left, and one was taken
abbrev pub HasTurn : Budget → Budget → Type 0
HasTurn old new = (1 ≤ left_of old) × (new ≡ after_one_turn old)

-- a step, if the gate lets the search go on: Ok takes a turn that was left; Spent takes none, and none is left
pub record TakesAskedTurn (old new : WorkerView) (result : Result StepEnd StepFault) : Type 0 where
  pub same : new ≡ record old { turns = new.turns }
  pub turn : IfOk result (λ _. HasTurn old.turns new.turns)
  pub spent : result ≡ Err faults.Spent → (left_of new.turns ≡ 0) × (new.turns.spent ≡ old.turns.spent)

-- a claim of the key of a state that a history from this one leads to found the board full
abbrev pub IsBoardFull : {S G N : Type 0} → GameModel S → S → BoardView G N → Type 0
IsBoardFull m s v = WasFull m v (LeadsTo m s)

-- each key is that of a finished state, and none stands twice; each search that is remembered is one over this board
pub record HasKept {S G N : Type 0} (m : GameModel S) (v : WorkView G N) : Type 0 where
  pub finished : AreFinished m true v.board v.finished.keys
  pub remembered : AreRemembered m v.board v.searches

-- play can come to the state, and it is no end
pub record IsInner {S : Type 0} (m : GameModel S) (s : S) : Type 0 where
  pub reachable : Reachable m s
  pub goes_on : 1 ≤ m.rank s

-- a reachable state of the board's game, its row, unless it is an end, and what is kept
pub record IsAtRow {S G N : Type 0} (m : GameModel S) (g : G) (s : S) (row : Option ℕ) (v : WorkView G N) : Type 0 where
  pub game : v.board.game ≡ g
  pub reachable : Reachable m s
  pub has_row : HasRow m v.board s row
  pub kept : HasKept m v

-- a reachable state of the board's game that is no end, the known rows of the states after its moves, and what is kept
pub record IsAtChildren {S G N : Type 0} (m : GameModel S) (g : G) (s : S) (places : KeptRows) (v : WorkView G N) : Type 0 where
  pub game : v.board.game ≡ g
  pub reachable : Reachable m s
  pub goes_on : 1 ≤ m.rank s
  pub children : AreChildRows m v.board s places
  pub kept : HasKept m v

-- what each part of the search of a state keeps; the states that it finishes have ranks below the limit
pub record IsWorkedBelow {S G N : Type 0} (m : GameModel S) (s : S) (limit : ℕ) (old new : WorkView G N) : Type 0 where
  pub board : IsBetter m old.board new.board
  pub turns : HasTurned old.turns new.turns
  pub visits : HasCounted old.visits new.visits
  pub linear : new.linear ≡ old.linear
  pub finished : IsExtended m new.board limit old.finished new.finished
  pub kept : HasKept m new
  pub cause : new.finished.was_full ≡ true → old.finished.was_full ≡ true ⊎ IsBoardFull m s new.board
  -- where it takes no turn, it posts pure plans alone
  pub pure_alone : new.turns.spent ≡ old.turns.spent → Grows (IsPureEntry m old.board.total) old.board.entries new.board.entries

abbrev pub IsWorked : {S G N : Type 0} → GameModel S → S → WorkView G N → WorkView G N → Type 0
IsWorked m s old new = IsWorkedBelow m s (m.rank s) old new

-- how a search of a state with a target may end; an end of the game has no gap
abbrev pub Ends : {S G N : Type 0} → GameModel S → S → ℤ → WorkView G N → SearchEnd → Type 0
Ends m s target v Reached = 1 ≤ m.rank s → IsWithin m v.board s target
Ends m s target v Settled = (1 ≤ m.rank s) × IsBeyond m v.board s target × IsClose m v.board s
Ends m s target v Spent = (1 ≤ m.rank s) × IsBeyond m v.board s target × (left_of v.turns ≡ 0)
Ends m s target v Full = (v.finished.was_full ≡ true) × IsBoardFull m s v.board
    × ((row : ℕ) → row < v.board.rows → v.board.key_at row ≡ Some (m.key s) → IsBeyond m v.board s target)

-- how many turns a restricted game of all moves of a state may take: it begins with one move of each side, and each turn but the last adds one or more
abbrev pub growth_turns : {S : Type 0} → GameModel S → ℕ
growth_turns m = 2 * m.width - 1

-- at most so many turns for each of so many states, besides those that were finished
abbrev pub TakesTurns : ℕ → ℕ → WorkerView → WorkerView → Type 0
TakesTurns each states old new = new.turns.spent + each * length old.finished.keys ≤ old.turns.spent + each * (length new.finished.keys + states)

-- as long as no claim was full: so many turns, or no turn is left and there were no more than for the most states
pub record TakesAtMost (each states most : ℕ) (old new : WorkerView) : Type 0 where
  pub unless_full : new.finished.was_full ≡ false → TakesTurns each states old new ⊎ ((left_of new.turns ≡ 0) × TakesTurns each most old new)

-- how many states a search that ended so may have taken turns at, itself included, that are not finished
abbrev pub open_states : ℕ → SearchEnd → ℕ
open_states rank Reached = 1
open_states rank Settled = 1
open_states rank Spent = rank
open_states rank Full = rank

-- the turns of a search of the state that ended so
abbrev pub HasTaken : {S G N : Type 0} → GameModel S → S → SearchEnd → WorkView G N → WorkView G N → Type 0
HasTaken m s end old new = TakesAtMost (growth_turns m) (open_states (m.rank s) end) (m.rank s) old.worker new.worker

-- how a restricted game that grows ended
pub record HasEnded {S G N : Type 0} (m : GameModel S) (s : S) (target : ℤ) (old new : WorkView G N) (end : SearchEnd) : Type 0 where
  pub ends : Ends m s target new end
  pub turns : HasTaken m s end old new

-- ---- pure plans
-- no search is stopped, and each side has as many visits left as the tree below the state has nodes
abbrev pub HasVisitsBelow : {S : Type 0} → GameModel S → S → Budget → VisitsView → Type 0
HasVisitsBelow m s turns visits = (turns.may_stop ≡ false) × ((side : Side) → tree_size m s ≤ left_on side visits)

-- the bounds known of the state are as tight as pure plans can make them
abbrev pub IsPureTight : {S G N : Type 0} → GameModel S → S → BoardView G N → Type 0
IsPureTight m s v = (side : Side) → IsNoTighter side (serial_bound m side s) (known_bound m v side s)

-- pure plans alone bring the bounds as close as the target
abbrev pub IsPureWithin : {S : Type 0} → GameModel S → S → ℤ → Type 0
IsPureWithin m s target = serial_bound m Two s ≤ℤ (serial_bound m One s +ℤ target)

-- with so many visits, and no full board: the bounds are as tight as pure plans can make them, and no turn is taken where these suffice
pub record BoundsByPure {S G N : Type 0} (m : GameModel S) (s : S) (target : ℤ) (old new : WorkView G N) (end : SearchEnd) : Type 0 where
  pub tight : HasVisitsBelow m s old.turns old.visits → new.finished.was_full ≡ false → 1 ≤ m.rank s → IsPureTight m s new.board
  pub at_once : HasVisitsBelow m s old.turns old.visits → new.finished.was_full ≡ false → IsPureWithin m s target → (end ≡ Reached) × (new.turns ≡ old.turns)

-- ---- states that are left to other workers
-- the bounds known of the state are tighter than pure plans can make them
abbrev pub IsAhead : {S G N : Type 0} → GameModel S → S → BoardView G N → Type 0
IsAhead m s v = (serial_bound m One s <ℤ known_bound m v One s) ⊎ (known_bound m v Two s <ℤ serial_bound m Two s)

-- what a state is left for: this is allowed, a turn is left, no claim was full, and another worker has made the bounds tighter than pure plans can
pub record IsLeavable {S G N : Type 0} (m : GameModel S) (s : S) (may_leave : Bool) (old new : WorkView G N) : Type 0 where
  pub allowed : IsTrue may_leave
  pub turn : 1 ≤ left_of old.turns
  pub not_full : old.finished.was_full ≡ false
  pub ahead : IsAhead m s new.board

-- a number was found, and lies below the bound
abbrev pub IsFoundBelow : Option ℤ → ℤ → Type 0
IsFoundBelow None bound = ⊥
IsFoundBelow (Some x) bound = x <ℤ bound

-- a number was found, and lies above the bound
abbrev pub IsFoundAbove : Option ℤ → ℤ → Type 0
IsFoundAbove None bound = ⊥
IsFoundAbove (Some x) bound = bound <ℤ x

-- ---- the states after held moves
-- why a part of a search stopped; where no turn is left, with what holds of those that were taken
abbrev pub IsStop : {S G N : Type 0} → GameModel S → S → WorkView G N → Type 0 → Stop → Type 0
IsStop m s v Taken stops.Spent = (left_of v.turns ≡ 0) × Taken
IsStop m s v Taken stops.Full = IsBoardFull m s v.board
IsStop m s v Taken stops.NoMemory = Unit {0}

-- whether a search that ended so has finished its state, else why the search stops that it is a part of
abbrev pub finish_of : SearchEnd → Result (Unit {0}) Stop
finish_of Reached = Ok tt
finish_of Settled = Ok tt
finish_of Spent = Err stops.Spent
finish_of Full = Err stops.Full

-- why a search stops at a board's fault, and at a step's
abbrev pub stop_at : BoardFault → Stop
stop_at board_faults.Full = stops.Full
stop_at board_faults.NoMemory = stops.NoMemory

abbrev pub stop_after : StepFault → Stop
stop_after faults.Spent = stops.Spent
stop_after faults.Full = stops.Full
stop_after faults.NoMemory = stops.NoMemory

-- an end, or its bounds are as close as its rank allows
abbrev pub IsDone : {S G N : Type 0} → GameModel S → BoardView G N → S → Type 0
IsDone m v s = 1 ≤ m.rank s → IsClose m v s

-- each state after a move of One and a move of Two is done
abbrev pub AreDone : {S G N : Type 0} → GameModel S → BoardView G N → S → ℕ → ℕ → Type 0
AreDone m v s one two = (draw : ℕ) → draw < m.draws s one two → IsDone m v (m.drawn s one two draw)

-- how the searches of states of at most this rank end: all is known, or one of them stopped
abbrev pub HasSearched : {S G N : Type 0} → GameModel S → S → ℕ → Type 0 → WorkerView → WorkView G N → Result (Unit {0}) Stop → Type 0
HasSearched m s rank Known old new (Ok _) = Known × TakesAtMost (growth_turns m) 0 rank old new.worker
HasSearched m s rank Known old new (Err stop) = IsStop m s new (TakesAtMost (growth_turns m) rank rank old new.worker) stop

-- how a search ends that stopped: it is reached all the same where the bounds known are within the target
abbrev pub IsStoppedAs : {S G N : Type 0} → GameModel S → BoardView G N → S → ℤ → SearchEnd → SearchEnd → Type 0
IsStoppedAs m v s target stopped end = (IsWithin m v s target × (end ≡ Reached)) ⊎ (IsBeyond m v s target × (end ≡ stopped))

-- how the search of a state may end before its first turn: the bounds known are within the target, or as close as its rank allows
abbrev pub IsEarlyEnd : {S G N : Type 0} → GameModel S → BoardView G N → S → ℤ → Option SearchEnd → Type 0
IsEarlyEnd m v s target None = IsBeyond m v s target
IsEarlyEnd m v s target (Some Reached) = IsWithin m v s target
IsEarlyEnd m v s target (Some Settled) = IsBeyond m v s target × IsClose m v s
IsEarlyEnd m v s target (Some Spent) = ⊥
IsEarlyEnd m v s target (Some Full) = ⊥

-- the number that a serial search found, unless it was cut
abbrev pub number_in : SerialEnd → Option ℤ
number_in (Exact value) = Some value
number_in (AtLeast value) = Some value
number_in (AtMost value) = Some value
number_in Cut = None

-- a restricted game at the state that holds one move of each side
pub record IsFirstHeld {S : Type 0} (m : GameModel S) (s : S) (held : HeldMoves) : Type 0 where
  pub two : count_held held ≡ 2
  pub rows : held.most_rows ≡ m.moves One s
  pub cols : held.most_cols ≡ m.moves Two s
