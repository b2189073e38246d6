-- What a search finds, and what it keeps.
use Rattle.std.specs.Prelude.{◌≡◌, ℕ, ◌+◌, ◌-◌, ◌*◌, ◌<◌, ◌≤◌, ℤ, Some, unsigned_abs, Result, Ok, Err}
use Rattle.sums.specs.declared.TheConstants.{MOST_REWARD}
use Rattle.sim_game.specs.declared.Side.{Side}
use Rattle.sim_game.specs.declared.TheConstants.{MOST_TURNS}
use Rattle.sim_game.specs.Model.{GameModel, IsEnd}
use Rattle.sim_game.specs.Sides.{other_side, IsNoTighter, opening_bound, state_bound, end_bound, draws_of, after_reward, IsTighter}
use Rattle.plan_book.specs.Steps.{cell}
use Rattle.plan_book.specs.Serial.{serial_bound}
use Rattle.plan_book.specs.Entries.{IsPureEntry}
use Rattle.plan_book.specs.Books.{Grows}
use Rattle.bounds_board.specs.Views.{BoardView, IsLater, IsSeenNumber, known_bound}
use Rattle.serial_ab.specs.declared.stop.SerialStop.{SerialStop}
use Rattle.serial_ab.specs.declared.stop.SerialStop.TheVariants.{Cut, Full, NoMemory}
use Rattle.serial_ab.specs.Counts.{VisitsView, Counts}
use Rattle.serial_ab.specs.Values.{pair_value, move_value}

-- the board knows no less, only lawful steps by one move were posted, and visits were counted
pub record IsSerialKept {S G N : Type 0} (m : GameModel S) (side : Side) (most : ℕ) (old new : BoardView G N)
    (before after : VisitsView) : Type 0 where
  pub later : IsLater old new
  pub posted : Grows (IsPureEntry m old.total) old.entries new.entries
  pub visits : Counts side most before after

-- the number lies between the bounds of the state
pub record IsInStateRange {S : Type 0} (m : GameModel S) (side : Side) (s : S) (x : ℤ) : Type 0 where
  pub low : IsNoTighter side (state_bound m side s) x
  pub high : IsNoTighter side x (state_bound m (other_side side) s)

-- the number is no further from 0 than a payoff by more than the rewards of the turns before the state
abbrev pub IsNear : {S : Type 0} → GameModel S → S → ℤ → Type 0
IsNear m s x = unsigned_abs x ≤ MOST_REWARD * (1 + MOST_TURNS - m.rank s)

-- the window of a side, from its worse end to its better one, in a game in which payoffs differ
pub record IsWindow {S : Type 0} (m : GameModel S) (side : Side) (s : S) (worse better : ℤ) : Type 0 where
  pub from : IsNear m s worse
  pub to : IsNear m s better
  pub wide : IsTighter side better worse
  pub differ : IsTighter side (opening_bound m (other_side side)) (opening_bound m side)

-- why a search has no number: it was cut, the board is full, or there is no memory
abbrev pub Stops : Type 0 → Type 0 → SerialStop → Type 0
Stops WasCut IsBoardFull Cut = WasCut
Stops WasCut IsBoardFull Full = IsBoardFull
Stops WasCut IsBoardFull NoMemory = Unit {0}

-- how a search ends
abbrev pub EndsWith : (ℤ → Type 0) → Type 0 → Type 0 → Result ℤ SerialStop → Type 0
EndsWith Found WasCut IsBoardFull (Ok x) = Found x
EndsWith Found WasCut IsBoardFull (Err stop) = Stops WasCut IsBoardFull stop

-- above the window's worse end the number is proved, and known where the state is no end; below its better end nothing better is there
pub record IsFound {S G N : Type 0} (m : GameModel S) (side : Side) (s : S) (worse better : ℤ) (v : BoardView G N)
    (x : ℤ) : Type 0 where
  pub proven : IsTighter side x worse → IsNoTighter side x (serial_bound m side s)
  pub at_end : IsEnd m s → x ≡ end_bound m s
  pub seen : 1 ≤ m.rank s → IsTighter side x worse → IsNoTighter side x (known_bound m v side s)
  pub reached : IsTighter side better x → IsNoTighter side (serial_bound m side s) x
  pub range : IsInStateRange m side s x
  pub opened : 1 ≤ m.rank s → IsNoTighter side (opening_bound m side) (v.seen side (m.key s))

-- the row of a state, where what was seen is no looser than the opening bound
pub record IsOpened {S G N : Type 0} (m : GameModel S) (side : Side) (s : S) (v : BoardView G N) (row : ℕ) : Type 0
  where
    pub has_key : v.key_at row ≡ Some (m.key s)
    pub opened : IsNoTighter side (opening_bound m side) (v.seen side (m.key s))

-- the same of an own move
pub record IsMoveFound {S G N : Type 0} (m : GameModel S) (side : Side) (s : S) (own : ℕ) (floor better : ℤ)
    (v : BoardView G N) (x : ℤ) : Type 0 where
  pub proven : IsTighter side x floor → IsNoTighter side x (move_value m side s own)
  pub seen : IsTighter side x floor → IsNoTighter side x (known_bound m v side s)
  pub reached : IsTighter side better x → IsNoTighter side (move_value m side s own) x
  pub range : IsInStateRange m side s x

-- a number at a state that proves and is seen
pub record IsGoodNumber {S G N : Type 0} (m : GameModel S) (side : Side) (v : BoardView G N) (s : S) (x : ℤ) : Type 0
  where
    pub proven : IsNoTighter side x (serial_bound m side s)
    pub seen : IsSeenNumber m v side s x

-- the same of an own move and a reply, with the numbers of the turns by the draws
pub record IsPairFound {S G N : Type 0} (m : GameModel S) (side : Side) (s : S) (own reply : ℕ) (floor ceiling : ℤ)
    (v : BoardView G N) (x : ℤ) : Type 0 where
  pub numbers : ℕ → ℤ
  pub good : IsTighter side x floor → (d : ℕ) → d < draws_of m side s own reply
      → after_reward m side s own reply d (IsGoodNumber m side v) (numbers d)
  pub proven : IsTighter side x floor → IsNoTighter side x (cell m side s (λ _ _ d. numbers d) own reply)
  pub reached : IsTighter side ceiling x → IsNoTighter side (pair_value m side s own reply) x
  pub range : IsInStateRange m side s x

-- the numbers against the first replies of an own move
pub record IsReplied {S G N : Type 0} (m : GameModel S) (side : Side) (s : S) (own replies : ℕ) (v : BoardView G N)
    (least : ℤ) : Type 0 where
  pub numbers : ℕ → ℕ → ℤ
  pub good : (reply d : ℕ) → reply < replies → d < draws_of m side s own reply
      → after_reward m side s own reply d (IsGoodNumber m side v) (numbers reply d)
  pub proven : (reply : ℕ) → reply < replies → IsNoTighter side least (cell m side s (λ _ r d. numbers r d) own reply)

-- a step by one move: the bound that the own move has over the numbers against all replies, no looser than the state's
pub record IsMoveStep {S G N : Type 0} (m : GameModel S) (side : Side) (s : S) (own : ℕ) (v : BoardView G N)
    (bound : ℤ) : Type 0 where
  pub own_move : own < m.moves side s
  pub low : IsNoTighter side (state_bound m side s) bound
  pub replied : IsReplied m side s own (m.moves (other_side side) s) v bound
