-- The sweeps of a search with linear stages.
use Rattle.std.specs.Prelude.{◌≡◌, ℕ, ◌+◌, ◌*◌, ◌≤◌, ◌<◌, ℤ, Bool, true, false, cond, Result, Ok, Err, List, length}
use Rattle.std.specs.List.{range_with_len}
use Rattle.sim_game.specs.declared.Side.TheVariants.{One, Two}
use Rattle.sim_game.specs.Model.{GameModel}
use Rattle.bounds_board.specs.Views.{BoardView}
use Rattle.restricted_game.specs.Held.{HeldMoves, HoldsAll}
use Rattle.oracle_search.specs.declared.ends.SearchEnd.{SearchEnd}
use Rattle.oracle_search.specs.declared.ends.SearchEnd.TheVariants.{Reached, Settled}
use Rattle.oracle_search.specs.declared.ends.Stop.{Stop}
use Rattle.oracle_search.specs.Finished.{IsBeyond, IsClose, AreFinished, AreAdded}
use Rattle.oracle_search.specs.Searches.{IsWorked, Ends, HasTaken, TakesAtMost, growth_turns, BoundsByPure, IsStop, IsDone, AreDone}
use Rattle.oracle_search.specs.Workers.{WorkerView, WorkView}

-- ---- one sweep
-- what each part of a sweep keeps; the states that it finishes have ranks below the limit, and after the last sweep their bounds are as close as these allow
pub record HasSwept {S G N : Type 0} (m : GameModel S) (is_last : Bool) (s : S) (limit : ℕ) (old new : WorkView G N) : Type 0 where
  pub worked : IsWorked m s old new
  pub added : AreAdded m is_last new.board limit old.swept new.swept
  pub kept : AreFinished m is_last new.board new.swept

-- as long as no claim was full: at most one turn for each state that the sweep has finished
pub record TakesOne (old new : WorkerView) : Type 0 where
  pub unless_full : new.finished.was_full ≡ false → new.turns.spent + length old.swept ≤ old.turns.spent + length new.swept

-- how a sweep over states ends: all is known, or it stopped at one of them, where it took no turn
abbrev pub IsSweepEnd : {S G N : Type 0} → GameModel S → S → Type 0 → WorkerView → WorkView G N → Result (Unit {0}) Stop → Type 0
IsSweepEnd m s Known old new (Ok _) = Known × TakesOne old new.worker
IsSweepEnd m s Known old new (Err stop) = IsStop m s new (TakesOne old new.worker) stop

-- in the last sweep each state that is no end is as close as its rank allows
abbrev pub IsSweepDone : {S G N : Type 0} → GameModel S → Bool → BoardView G N → S → Type 0
IsSweepDone m is_last v s = is_last ≡ true → IsDone m v s

-- each state after any moves is done
abbrev pub AreAllDone : {S G N : Type 0} → GameModel S → BoardView G N → S → Type 0
AreAllDone m v s = (one two : ℕ) → one < m.moves One s → two < m.moves Two s → AreDone m v s one two

-- ---- whole sweeps
-- so many sweeps before the last took at most a turn each for each state of a list, none twice, of which each has a row; and so many
-- last ones for each state of another list, none twice, whose bounds are besides as close as its rank allows
pub record TakesSweeps {S G N : Type 0} (m : GameModel S) (earlier last : ℕ) (v : BoardView G N) (old new : ℕ) : Type 0 where
  pub keys : List ℕ
  pub swept : AreFinished m false v keys
  pub finished : List ℕ
  pub closed : AreFinished m true v finished
  pub few : new ≤ old + earlier * length keys + last * length finished

-- as long as no claim was full: the turns of so many sweeps
abbrev pub TakesUnlessFull : {S G N : Type 0} → GameModel S → ℕ → ℕ → WorkerView → WorkView G N → Type 0
TakesUnlessFull m earlier last old new = new.finished.was_full ≡ false → TakesSweeps m earlier last new.board old.turns.spent new.turns.spent

-- how a search ends by so many sweeps
pub record EndsBySweeps {S G N : Type 0} (m : GameModel S) (s : S) (target : ℤ) (earlier last : ℕ) (old new : WorkView G N) (end : SearchEnd) : Type 0 where
  pub ends : Ends m s target new end
  pub owed : TakesUnlessFull m earlier last old.worker new
  pub turned : end ≡ Settled → old.turns.spent + 1 ≤ new.turns.spent

-- what a sweep leaves to the next: the gap is above the target, and as close as the rank allows after the last sweep
pub record LeavesToNext {S G N : Type 0} (m : GameModel S) (s : S) (target : ℤ) (is_last : Bool) (old new : WorkView G N) : Type 0 where
  pub beyond : IsBeyond m new.board s target
  pub close : is_last ≡ true → IsClose m new.board s
  pub owed : TakesUnlessFull m (cond is_last 0 1) (cond is_last 1 0) old.worker new
  pub turned : is_last ≡ true → old.turns.spent + 1 ≤ new.turns.spent

-- what a sweep leaves, by whether it reached the target
abbrev pub IsAfterSweep : {S G N : Type 0} → GameModel S → S → ℤ → Bool → WorkView G N → WorkView G N → Bool → Type 0
IsAfterSweep m s target is_last old new true = EndsBySweeps m s target (cond is_last 0 1) (cond is_last 1 0) old new Reached
IsAfterSweep m s target is_last old new false = LeavesToNext m s target is_last old new

-- how the search of a state ends: with regret matching turns are counted by states, with linear stages by sweeps
pub record HasBounded {S G N : Type 0} (m : GameModel S) (s : S) (target : ℤ) (old new : WorkView G N) (end : SearchEnd) : Type 0 where
  pub ends : Ends m s target new end
  pub turns : old.linear ≡ false → HasTaken m s end old new
  pub owed : old.linear ≡ true → new.finished.was_full ≡ false → TakesSweeps m 2 1 new.board old.turns.spent new.turns.spent

-- what the search of a state leaves that no turn was left for, however it ends
pub record HasRunOut {S G N : Type 0} (m : GameModel S) (s : S) (target : ℤ) (old new : WorkView G N) : Type 0 where
  pub turns : old.linear ≡ false → TakesAtMost (growth_turns m) (m.rank s) (m.rank s) old.worker new.worker
  pub owed : old.linear ≡ true → TakesUnlessFull m 2 1 old.worker new
  pub pure : (end : SearchEnd) → BoundsByPure m s target old new end

-- ---- the moves of a state
-- a restricted game at the state that holds all moves
pub record IsFullHeld {S : Type 0} (m : GameModel S) (s : S) (held : HeldMoves) : Type 0 where
  pub all : HoldsAll held
  pub rows : held.rows ≡ range_with_len 0 (m.moves One s)
  pub cols : held.cols ≡ range_with_len 0 (m.moves Two s)
  pub most_rows : held.most_rows ≡ m.moves One s
  pub most_cols : held.most_cols ≡ m.moves Two s
