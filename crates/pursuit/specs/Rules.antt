-- The rules of pursuit and evasion, on a graph.
use Rattle.std.specs.Prelude.{◌≡◌, ◌⊎◌, ◌↔◌, ℕ, zero, suc, ◌+◌, ◌-◌, ◌*◌, ◌≤◌, ◌^◌, max, ℤ, pos, neg_ℤ, Bool, true, ◌||◌, ◌&&◌, ◌==◌, nat_lt, if◌then◌else◌, List, [], length, filter, slice_index}
use Rattle.std.specs.List.{range_with_len}
use Rattle.sim_game.specs.declared.Limits.TheVariants.{Narrow}
use Rattle.sim_game.specs.declared.Side.{Side}
use Rattle.sim_game.specs.declared.Side.TheVariants.{One, Two}
use Rattle.sim_game.specs.Model.{GameModel, Turn, IsEnd, Reachable, after_turn, whole_chance}
use Rattle.sim_game.specs.Numbers.{Numbering, by_key}
use Rattle.pursuit.specs.declared.Setting.{Setting}
use Rattle.pursuit.specs.declared.State.{State}
use Rattle.pursuit.specs.Edges.{is_joined, is_joined_in}
use Rattle.pursuit.specs.Position.{most_nodes, most_rounds, IsSettingOf}

-- ---- the graph
-- what the rules look at: how many nodes there are, and a test that tells which of them an edge joins
pub record Graph : Type 0 where
  pub nodes : ℕ
  pub joined : ℕ → ℕ → Bool

-- the number of neighbours of a node
abbrev pub degree : Graph → ℕ → ℕ
degree r node = length (filter (r.joined node) (range_with_len 0 r.nodes))

-- the greatest of f 0 to f (n - 1), and 0 where n is 0
abbrev pub greatest_below : ℕ → (ℕ → ℕ) → ℕ
greatest_below zero f = 0
greatest_below (suc n) f = max (greatest_below n f) (f n)

-- the greatest degree and 1
abbrev pub width_of : Graph → ℕ
width_of r = greatest_below r.nodes (degree r) + 1

-- where a player may go from a node, rising: to its neighbours, or it stays
abbrev pub reach : Graph → ℕ → List ℕ
reach r node = filter (λ other. r.joined node other || (node == other)) (range_with_len 0 r.nodes)

-- ---- the rules
abbrev pub node_of : Side → State → ℕ
node_of One s = s.one
node_of Two s = s.two

-- Two is caught, or no round is left
abbrev pub is_chase_over : State → Bool
is_chase_over s = s.caught || (s.rounds == 0)

-- where a side may go; nowhere at an end
abbrev pub ways : Graph → Side → State → List ℕ
ways r side s = if is_chase_over s then [] else reach r (node_of side s)

-- both come to one node, or they change places
abbrev pub is_catch : State → ℕ → ℕ → Bool
is_catch s one two = (one == two) || ((one == s.two) && (two == s.one))

-- both go to these nodes, and a round is over
abbrev pub after_round : State → ℕ → ℕ → State
after_round s one two = record { one = one; two = two; rounds = s.rounds - 1; caught = is_catch s one two }

abbrev pub pursuit_payoff : State → ℤ
pursuit_payoff s = if s.caught then pos 1 else neg_ℤ (pos 1)

abbrev pub pursuit_rank : State → ℕ
pursuit_rank s = if s.caught then 0 else s.rounds

-- how many bits of a key the rounds take, and each of both nodes: more beyond the narrow limits
abbrev pub key_bits : ℕ → ℕ → ℕ
key_bits nodes rounds = if nat_lt (most_nodes Narrow) nodes || nat_lt (most_rounds Narrow) rounds then 6 else 5

-- whether Two is caught in one bit, then the rounds and both nodes in so many
abbrev pub pursuit_key : ℕ → State → ℕ
pursuit_key bits s = (((if s.caught then 1 else 0) * 2 ^ bits + s.rounds) * 2 ^ bits + s.one) * 2 ^ bits + s.two

-- ---- the game
-- the number of nodes and the rounds of the first state give the layout of all keys
abbrev pub game_from : Graph → State → GameModel State
game_from r first = record {
  root = first;
  moves = λ side s. length (ways r side s);
  draws = λ s one two. 1;
  chance = λ s one two draw. whole_chance;
  drawn = λ s one two draw. after_round s (slice_index (ways r One s) one) (slice_index (ways r Two s) two);
  payoff = pursuit_payoff;
  reward = λ s one two draw. pos 0;
  least = λ s. neg_ℤ (pos 1);
  most = λ s. pos 1;
  rank = pursuit_rank;
  key = pursuit_key (key_bits r.nodes first.rounds);
  label = λ side s i. slice_index (ways r side s) i;
  low = neg_ℤ (pos 1);
  high = pos 1;
  width = width_of r;
  chance_free = true;
}

abbrev pub graph_from : ℕ → List ℕ → Graph
graph_from nodes sets = record { nodes = nodes; joined = is_joined_in sets }

abbrev pub graph_of : Setting → Graph
graph_of g = graph_from g.nodes g.neighbours

-- Two is caught where both stand on one node
abbrev pub first_of : ℕ → ℕ → ℕ → State
first_of one two rounds = record { one = one; two = two; rounds = rounds; caught = one == two }

abbrev pub pursuit_root : Setting → State
pursuit_root g = first_of g.one g.two g.rounds

abbrev pub pursuit_game : Setting → GameModel State
pursuit_game g = game_from (graph_of g) (pursuit_root g)

-- the place of a state is its key
abbrev pub pursuit_numbering : Setting → Numbering State
pursuit_numbering g = by_key (pursuit_game g) (2 ^ (3 * key_bits g.nodes g.rounds + 1))

-- ---- what is proved of the game
-- the graph of a list of edges
abbrev pub graph_of_edges : ℕ → List ℕ → Graph
graph_of_edges nodes edges = record { nodes = nodes; joined = is_joined edges }

-- each call answers by the rules on the graph of these edges
pub record KeepsGraph (g : Setting) (r : Graph) (one two rounds : ℕ) : Type 0 where
  pub root : (pursuit_game g).root ≡ first_of one two rounds
  pub moves : (side : Side) (s : State) → (pursuit_game g).moves side s ≡ length (ways r side s)
  pub label : (side : Side) (s : State) (i : ℕ) → (pursuit_game g).label side s i ≡ slice_index (ways r side s) i
  pub follows : (s : State) (t : Turn) → after_turn (pursuit_game g) s t ≡ after_round s (slice_index (ways r One s) t.one) (slice_index (ways r Two s) t.two)
  pub width : (pursuit_game g).width ≡ width_of r

pub record KeepsRules (g : Setting) : Type 0 where
  pub graph : (edges : List ℕ) (one two rounds : ℕ) → IsSettingOf g.nodes edges one two rounds g → KeepsGraph g (graph_of_edges g.nodes edges) one two rounds
  -- each pair of moves has one draw, of the whole weight
  pub draws : (s : State) (one two : ℕ) → (pursuit_game g).draws s one two ≡ 1
  pub chance : (s : State) (one two draw : ℕ) → (pursuit_game g).chance s one two draw ≡ whole_chance
  -- an end is where Two is caught, or where no round is left
  pub ends : (s : State) → IsEnd (pursuit_game g) s ↔ ((s.caught ≡ true) ⊎ (s.rounds ≡ 0))
  pub payoff : (s : State) → (pursuit_game g).payoff s ≡ pursuit_payoff s
  -- all is paid at the end
  pub reward : (s : State) (one two draw : ℕ) → (pursuit_game g).reward s one two draw ≡ pos 0
  pub rank : (s : State) → (pursuit_game g).rank s ≡ pursuit_rank s
  pub key : (s : State) → (pursuit_game g).key s ≡ pursuit_key (key_bits g.nodes g.rounds) s
  -- where the narrow limits hold the rounds and the nodes take five bits each
  pub narrow_key : g.nodes ≤ most_nodes Narrow → g.rounds ≤ most_rounds Narrow → (s : State)
      → (pursuit_game g).key s ≡ pursuit_key 5 s
  pub low : (pursuit_game g).low ≡ neg_ℤ (pos 1)
  pub high : (pursuit_game g).high ≡ pos 1
  pub chance_free : (pursuit_game g).chance_free ≡ true
  pub same_state : (s t : State) → Reachable (pursuit_game g) s → Reachable (pursuit_game g) t
      → (pursuit_game g).key s ≡ (pursuit_game g).key t → s ≡ t

-- ---- more rounds
-- the states differ at most in the rounds left, of which the second has as many or more
pub record HasMoreRounds (few many : State) : Type 0 where
  pub one : few.one ≡ many.one
  pub two : few.two ≡ many.two
  pub caught : few.caught ≡ many.caught
  pub rounds : few.rounds ≤ many.rounds

-- the same of positions
pub record IsLongerChase (few many : Setting) : Type 0 where
  pub nodes : few.nodes ≡ many.nodes
  pub neighbours : few.neighbours ≡ many.neighbours
  pub one : few.one ≡ many.one
  pub two : few.two ≡ many.two
  pub rounds : few.rounds ≤ many.rounds
