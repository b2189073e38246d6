-- What an object over a board knows of it, and how that may change.
use Rattle.std.specs.Prelude.{◌≡◌, ◌≢◌, ℕ, ◌<◌, ◌≤◌, ℤ, Option, Some, List}
use Rattle.sim_game.specs.declared.Side.{Side}
use Rattle.sim_game.specs.declared.Side.TheVariants.{One, Two}
use Rattle.sim_game.specs.Model.{GameModel, IsEnd, Reachable}
use Rattle.plan_book.specs.declared.Entry.{Entry}
use Rattle.sim_game.specs.Sides.{IsNoTighter, better, opening_bound, state_bound, end_bound}
use Rattle.plan_book.specs.Backed.{IsBacked}
use Rattle.plan_book.specs.Entries.{IsEntry}
use Rattle.bounds_board.specs.declared.bounds.Enclosure.{Enclosure}

pub record BoardView (G N : Type 0) : Type 0 where
  -- which object over which board it is
  pub name : N
  pub game : G
  -- what the weights of each entry sum to
  pub total : ℕ
  pub rows : ℕ
  -- the key of a row, where the object knows it
  pub key_at : ℕ → Option ℕ
  -- the tightest bound of a side that was read or posted at a key, else the opening bound
  pub seen : Side → ℕ → ℤ
  -- what was posted, in order
  pub entries : List Entry

-- the later view is of the same object and knows no less
pub record IsLater {G N : Type 0} (old new : BoardView G N) : Type 0 where
  pub name : new.name ≡ old.name
  pub game : new.game ≡ old.game
  pub total : new.total ≡ old.total
  pub rows : new.rows ≡ old.rows
  pub keys : (row key : ℕ) → old.key_at row ≡ Some key → new.key_at row ≡ Some key
  pub seen : (side : Side) (key : ℕ) → IsNoTighter side (old.seen side key) (new.seen side key)

-- the key is that of a reachable state that is no end
pub record IsInnerKey {S : Type 0} (m : GameModel S) (key : ℕ) : Type 0 where
  pub state : S
  pub reachable : Reachable m state
  pub goes_on : 1 ≤ m.rank state
  pub is_key : m.key state ≡ key

-- each row is known to have a key other than the one asked for, and no two rows have one key
pub record IsFull {S G N : Type 0} (m : GameModel S) (v : BoardView G N) (asked : ℕ) : Type 0 where
  pub inner : IsInnerKey m asked
  pub others : (row : ℕ) → row < v.rows → (key : ℕ) × (v.key_at row ≡ Some key) × IsInnerKey m key × (key ≢ asked)
  pub apart : (row other key : ℕ) → row < v.rows → other < v.rows → v.key_at row ≡ Some key → v.key_at other ≡ Some key → row ≡ other

-- a claim of the key of such a state found each row held by another key
pub record WasFull {S G N : Type 0} (m : GameModel S) (v : BoardView G N) (IsAsked : S → Type 0) : Type 0 where
  pub state : S
  pub is_asked : IsAsked state
  pub full : IsFull m v (m.key state)

-- what is known of a state: the tightest bound seen at its key, or what holds of every value of it where that is better
abbrev pub known_bound : {S G N : Type 0} → GameModel S → BoardView G N → Side → S → ℤ
known_bound m v side s = better side (v.seen side (m.key s)) (state_bound m side s)

-- a number at a state that an entry may rest on
pub data IsSeenNumber {S G N : Type 0} (m : GameModel S) (v : BoardView G N) (side : Side) (s : S) (x : ℤ) : Type 0 where
  by_end : IsEnd m s → x ≡ end_bound m s → IsSeenNumber m v side s x
  by_range : IsNoTighter side x (state_bound m side s) → IsSeenNumber m v side s x
  by_seen : IsNoTighter side x (v.seen side (m.key s)) → IsSeenNumber m v side s x

-- the entry is lawful and rests on numbers that were seen
abbrev pub IsPostable : {S G N : Type 0} → GameModel S → BoardView G N → Entry → Type 0
IsPostable m v e = IsEntry m v.total (IsSeenNumber m v) e

-- the two numbers are what was seen at the key
pub record IsRead {G N : Type 0} (v : BoardView G N) (lower upper : ℤ) (key : ℕ) : Type 0 where
  pub lower_seen : lower ≡ v.seen One key
  pub upper_seen : upper ≡ v.seen Two key

-- both numbers are backed at the state and lie in the range of payoffs
pub record IsEnclosure {S : Type 0} (m : GameModel S) (lower upper : ℤ) (s : S) : Type 0 where
  pub lower_backed : IsBacked m One s lower
  pub upper_backed : IsBacked m Two s upper
  pub lower_low : IsNoTighter One (opening_bound m One) lower
  pub lower_high : IsNoTighter Two (opening_bound m Two) lower
  pub upper_low : IsNoTighter One (opening_bound m One) upper
  pub upper_high : IsNoTighter Two (opening_bound m Two) upper

-- the bound of a side
abbrev pub bound_in : Side → Enclosure → ℤ
bound_in One e = e.lower
bound_in Two e = e.upper
