-- A game of two players who move at once, as plain functions over any type of states.
use Rattle.std.specs.Prelude.{◌≡◌, ◌≢◌, ℕ, ◌<◌, ◌≤◌, ◌^◌, ℤ, pos, neg_ℤ, ◌+ℤ◌, ◌≤ℤ◌, Bool, IsTrue, List, [], ◌∷◌}
use Rattle.sim_game.specs.declared.Side.{Side}
use Rattle.sim_game.specs.declared.Side.TheVariants.{One, Two}
use Rattle.sums.specs.Sums.{count_below}
use Rattle.sums.specs.declared.TheConstants.{MOST_MOVES}
use Rattle.sim_game.specs.declared.TheConstants.{MOST_TURNS}

pub record GameModel (S : Type 0) : Type 0 where
  pub root : S
  -- how many moves a side has; none at an end
  pub moves : Side → S → ℕ
  -- how many draws follow a move of One and a move of Two
  pub draws : S → ℕ → ℕ → ℕ
  -- the weight of a draw
  pub chance : S → ℕ → ℕ → ℕ → ℕ
  -- the state after both moves and a draw
  pub drawn : S → ℕ → ℕ → ℕ → S
  -- what One gets at an end
  pub payoff : S → ℤ
  -- what One gets by a turn, besides what follows it
  pub reward : S → ℕ → ℕ → ℕ → ℤ
  -- the least and the greatest sum that One can still get from a state on
  pub least : S → ℤ
  pub most : S → ℤ
  pub rank : S → ℕ
  pub key : S → ℕ
  pub label : Side → S → ℕ → ℕ
  pub low : ℤ
  pub high : ℤ
  pub width : ℕ
  pub chance_free : Bool

-- how many parts a payoff of 1 has in a bound
abbrev pub bound_scale : ℕ
bound_scale = 1000000

-- what the weights of the draws of one pair of moves sum to
abbrev pub whole_chance : ℕ
whole_chance = 360360

-- both moves and the draw
pub record Turn : Type 0 where
  pub one : ℕ
  pub two : ℕ
  pub draw : ℕ

-- the turn can be made at the state
pub record IsTurn {S : Type 0} (m : GameModel S) (s : S) (t : Turn) : Type 0 where
  pub one_below : t.one < m.moves One s
  pub two_below : t.two < m.moves Two s
  pub draw_below : t.draw < m.draws s t.one t.two

abbrev pub after_turn : {S : Type 0} → GameModel S → S → Turn → S
after_turn m s t = m.drawn s t.one t.two t.draw

-- each turn of the history can be made where it is made
abbrev pub IsHistory : {S : Type 0} → GameModel S → S → List Turn → Type 0
IsHistory m s [] = Unit {0}
IsHistory m s (t ∷ h) = IsTurn m s t × IsHistory m (after_turn m s t) h

-- where the history leads from a state
abbrev pub after_history : {S : Type 0} → GameModel S → S → List Turn → S
after_history m s [] = s
after_history m s (t ∷ h) = after_history m (after_turn m s t) h

-- some history leads from the one state to the other
pub record LeadsTo {S : Type 0} (m : GameModel S) (s t : S) : Type 0 where
  pub history : List Turn
  pub legal : IsHistory m s history
  pub leads : after_history m s history ≡ t

-- some history leads from the root to the state
pub record Reachable {S : Type 0} (m : GameModel S) (s : S) : Type 0 where
  pub history : List Turn
  pub legal : IsHistory m m.root history
  pub leads : after_history m m.root history ≡ s

-- the game has at most so many reachable states, the root and ends included: any that differ are no more
pub record HasAtMost {S : Type 0} (m : GameModel S) (most : ℕ) : Type 0 where
  pub few : (count : ℕ) (states : ℕ → S) → ((i : ℕ) → i < count → Reachable m (states i)) → ((i j : ℕ) → i < j → j < count → states i ≢ states j) → count ≤ most

abbrev pub IsEnd : {S : Type 0} → GameModel S → S → Type 0
IsEnd m s = m.rank s ≡ 0

-- what every game promises
pub record IsGame {S : Type 0} (m : GameModel S) : Type 0 where
  pub width_low : 1 ≤ m.width
  pub width_high : m.width ≤ MOST_MOVES
  pub low_least : neg_ℤ (pos 4000) ≤ℤ m.low
  pub low_high : m.low ≤ℤ m.high
  pub high_most : m.high ≤ℤ pos 4000
  pub end_moves : (side : Side) (s : S) → Reachable m s → IsEnd m s → m.moves side s ≡ 0
  pub other_moves : (side : Side) (s : S) → Reachable m s → 1 ≤ m.rank s → 1 ≤ m.moves side s
  pub moves_high : (side : Side) (s : S) → Reachable m s → m.moves side s ≤ m.width
  pub rank_high : (s : S) → Reachable m s → m.rank s ≤ MOST_TURNS
  pub rank_falls : (s : S) (t : Turn) → Reachable m s → IsTurn m s t → m.rank (after_turn m s t) < m.rank s
  pub least_low : (s : S) → Reachable m s → m.low ≤ℤ m.least s
  pub most_high : (s : S) → Reachable m s → m.most s ≤ℤ m.high
  pub payoff_low : (s : S) → Reachable m s → IsEnd m s → m.least s ≤ℤ m.payoff s
  pub payoff_high : (s : S) → Reachable m s → IsEnd m s → m.payoff s ≤ℤ m.most s
  pub reward_low : (s : S) (t : Turn) → Reachable m s → IsTurn m s t → m.least s ≤ℤ (m.reward s t.one t.two t.draw +ℤ m.least (after_turn m s t))
  pub reward_high : (s : S) (t : Turn) → Reachable m s → IsTurn m s t → (m.reward s t.one t.two t.draw +ℤ m.most (after_turn m s t)) ≤ℤ m.most s
  pub same_key : (s t : S) → Reachable m s → Reachable m t → m.key s ≡ m.key t → s ≡ t
  pub key_high : (s : S) → Reachable m s → m.key s < 2 ^ 63
  pub draws_low : (s : S) (a b : ℕ) → Reachable m s → a < m.moves One s → b < m.moves Two s → 1 ≤ m.draws s a b
  pub draws_high : (s : S) (a b : ℕ) → Reachable m s → a < m.moves One s → b < m.moves Two s → m.draws s a b ≤ 13
  pub chance_low : (s : S) (t : Turn) → Reachable m s → IsTurn m s t → 1 ≤ m.chance s t.one t.two t.draw
  pub chance_sum : (s : S) (a b : ℕ) → Reachable m s → a < m.moves One s → b < m.moves Two s → count_below (m.draws s a b) (m.chance s a b) ≡ whole_chance
  pub one_draw : (s : S) (a b : ℕ) → IsTrue m.chance_free → Reachable m s → a < m.moves One s → b < m.moves Two s → m.draws s a b ≡ 1
