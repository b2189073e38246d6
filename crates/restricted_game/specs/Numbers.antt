-- The numbers that a step reads at the states after held moves, and those of the turns that lead there.
use Rattle.std.specs.Prelude.{◌≡◌, ◌⊎◌, ℕ, ◌<◌, ◌≤◌, ℤ, Some, List}
use Rattle.std.specs.List.{Contains}
use Rattle.sim_game.specs.declared.Side.{Side}
use Rattle.sim_game.specs.declared.Side.TheVariants.{One, Two}
use Rattle.sim_game.specs.Model.{GameModel, IsEnd}
use Rattle.sim_game.specs.Sides.{other_side, IsNoTighter, state_bound, end_bound, after_reward}
use Rattle.plan_book.specs.Backed.{IsBacked}
use Rattle.bounds_board.specs.declared.bounds.Enclosure.{Enclosure}
use Rattle.bounds_board.specs.Views.{BoardView, bound_in, known_bound}

-- some row is known to have the key
pub record IsClaimed {G N : Type 0} (v : BoardView G N) (key : ℕ) : Type 0 where
  pub row : ℕ
  pub holds : v.key_at row ≡ Some key

-- a number of a side that was read at a state between two views: an end's payoff, else a bound at the state's row, or that of all values of the state where it is better
pub record IsReadNumber {S G N : Type 0} (m : GameModel S) (u v : BoardView G N) (side : Side) (s : S) (x : ℤ) : Type 0 where
  pub backed : IsBacked m side s x
  pub low : IsNoTighter side (state_bound m side s) x
  pub high : IsNoTighter side x (state_bound m (other_side side) s)
  pub at_end : IsEnd m s → x ≡ end_bound m s
  pub claimed : 1 ≤ m.rank s → IsClaimed v (m.key s)
  pub no_looser : 1 ≤ m.rank s → IsNoTighter side (known_bound m u side s) x
  pub no_tighter : 1 ≤ m.rank s → IsNoTighter side x (known_bound m v side s)

-- both numbers were read at the state
pub record AreRead {S G N : Type 0} (m : GameModel S) (u v : BoardView G N) (s : S) (e : Enclosure) : Type 0 where
  pub number : (side : Side) → IsReadNumber m u v side s (bound_in side e)

-- both numbers are a turn's reward, each with a number that was read at the state that follows
pub record AreTurnRead {S G N : Type 0} (m : GameModel S) (u v : BoardView G N) (s : S) (one two draw : ℕ) (e : Enclosure) : Type 0 where
  pub number : (side : Side) → after_reward m One s one two draw (IsReadNumber m u v side) (bound_in side e)

-- a step reads what follows a pair of moves of which at least one is held
abbrev pub IsWanted : List ℕ → List ℕ → ℕ → ℕ → Type 0
IsWanted held others move other = Contains held move ⊎ Contains others other

-- a draw after both moves leads to the state
pub record IsDrawn {S : Type 0} (m : GameModel S) (s : S) (one two : ℕ) (t : S) : Type 0 where
  pub draw : ℕ
  pub draw_below : draw < m.draws s one two
  pub leads : m.drawn s one two draw ≡ t

-- a child that a step with these held moves reads
pub record IsReadChild {S : Type 0} (m : GameModel S) (s : S) (rows cols : List ℕ) (t : S) : Type 0 where
  pub one : ℕ
  pub two : ℕ
  pub one_below : one < m.moves One s
  pub two_below : two < m.moves Two s
  pub wanted : IsWanted rows cols one two
  pub drawn : IsDrawn m s one two t
