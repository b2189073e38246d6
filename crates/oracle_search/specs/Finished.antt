-- The states that a worker has finished, and when a state counts as finished.
use Rattle.std.specs.Prelude.{◌≡◌, ◌≢◌, ℕ, ◌+◌, ◌*◌, ◌<◌, ◌≤◌, ℤ, pos, ◌+ℤ◌, ◌≤ℤ◌, ◌<ℤ◌, Bool, true, cond, Some, List, ◌++◌, length, slice_index, All}
use Rattle.std.specs.Int.{div_ceil}
use Rattle.sim_game.specs.declared.Side.TheVariants.{One, Two}
use Rattle.sim_game.specs.declared.TheConstants.{MOST_TURNS}
use Rattle.sim_game.specs.Model.{GameModel, Reachable}
use Rattle.sim_game.specs.Resolution.{IsStageGap}
use Rattle.bounds_board.specs.Views.{BoardView, known_bound}

-- the keys in order of addition, and whether some claim found the board full
pub record FinishedView : Type 0 where
  pub keys : List ℕ
  pub was_full : Bool

-- the bounds known of the state are at most so far apart
abbrev pub IsWithin : {S G N : Type 0} → GameModel S → BoardView G N → S → ℤ → Type 0
IsWithin m v s gap = known_bound m v Two s ≤ℤ (known_bound m v One s +ℤ gap)

-- they are further apart
abbrev pub IsBeyond : {S G N : Type 0} → GameModel S → BoardView G N → S → ℤ → Type 0
IsBeyond m v s gap = (known_bound m v One s +ℤ gap) <ℤ known_bound m v Two s

-- the gap of a state of this rank that the stages of its turns reach: a stage's gap and the roundings, for each rank
abbrev pub rank_gap : {S : Type 0} → GameModel S → ℕ → ℕ → ℕ
rank_gap m stage rank = rank * (stage + 1 + cond m.chance_free 0 1)

-- the gap at which a state of this rank is left to another worker: a 32nd of the same for each rank, rounded up
abbrev pub left_gap : {S : Type 0} → GameModel S → ℕ → ℕ → ℕ
left_gap m stage rank = rank * div_ceil (stage + 1 + cond m.chance_free 0 1) 32

-- a gap at which the state may be left to another worker
abbrev pub IsLeftBelow : {S : Type 0} → GameModel S → ℕ → S → ℤ → Type 0
IsLeftBelow m total s gap = (stage : ℕ) → IsStageGap m total stage → gap ≤ℤ pos (left_gap m stage (m.rank s))

-- the bounds known of the state are as close as its rank allows
abbrev pub IsClose : {S G N : Type 0} → GameModel S → BoardView G N → S → Type 0
IsClose m v s = (stage : ℕ) → IsStageGap m v.total stage → IsWithin m v s (pos (rank_gap m stage (m.rank s)))

-- the key is that of a reachable state that is no end, of a rank below the limit, which has a row, and whose bounds, where so asked, are as close as its rank allows
pub record IsFinished {S G N : Type 0} (m : GameModel S) (is_close : Bool) (v : BoardView G N) (limit key : ℕ) : Type 0 where
  pub state : S
  pub reachable : Reachable m state
  pub goes_on : 1 ≤ m.rank state
  pub below : m.rank state < limit
  pub is_key : m.key state ≡ key
  pub row : ℕ
  pub held : v.key_at row ≡ Some key
  pub close : is_close ≡ true → IsClose m v state

-- no key stands twice
abbrev pub AreApart : List ℕ → Type 0
AreApart keys = (i j : ℕ) → i < j → j < length keys → slice_index keys i ≢ slice_index keys j

pub record AreFinished {S G N : Type 0} (m : GameModel S) (is_close : Bool) (v : BoardView G N) (keys : List ℕ) : Type 0 where
  pub each : All (IsFinished m is_close v (1 + MOST_TURNS)) keys
  pub apart : AreApart keys

-- keys were added at the end, each of a finished state of a rank below the limit
pub record AreAdded {S G N : Type 0} (m : GameModel S) (is_close : Bool) (v : BoardView G N) (limit : ℕ) (old new : List ℕ) : Type 0 where
  pub more : List ℕ
  pub joins : new ≡ old ++ more
  pub each : All (IsFinished m is_close v limit) more

-- keys of states that are as close as their ranks allow were added, and a full board stays in mind
pub record IsExtended {S G N : Type 0} (m : GameModel S) (v : BoardView G N) (limit : ℕ) (old new : FinishedView) : Type 0 where
  pub added : AreAdded m true v limit old.keys new.keys
  pub full : old.was_full ≡ true → new.was_full ≡ true
