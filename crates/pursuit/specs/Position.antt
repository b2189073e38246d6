-- Which graphs, players and rounds make a position, and the first fault of the others.
use Rattle.std.specs.Prelude.{◌≡◌, ℕ, ◌*◌, ◌%◌, ◌<◌, ◌≤◌, ◌^◌, false, ◌||◌, ◌==◌, nat_lt, nat_le, if◌then◌else◌, List, [], ◌∷◌, length, position, slice_index, Option, Some, None, option_map}
use Rattle.sim_game.specs.declared.Limits.{Limits}
use Rattle.sim_game.specs.declared.Limits.TheVariants.{Narrow, Wide}
use Rattle.sim_game.specs.declared.Side.TheVariants.{One, Two}
use Rattle.text.specs.Faults.{first_some}
use Rattle.pursuit.specs.declared.PursuitError.{PursuitError}
use Rattle.pursuit.specs.declared.PursuitError.TheVariants.{NodesRange, EdgeOdd, EdgeRange, EdgeLoop, PlaceRange, RoundsRange}
use Rattle.pursuit.specs.declared.Setting.{Setting}
use Rattle.pursuit.specs.declared.TheConstants.{MOST_NODES}
use Rattle.pursuit.specs.Edges.{first_node, second_node, edge_numbers, is_joined, is_joined_in}

-- ---- limits
abbrev pub most_nodes : Limits → ℕ
most_nodes Narrow = 32
most_nodes Wide = 64

abbrev pub most_rounds : Limits → ℕ
most_rounds Narrow = 31
most_rounds Wide = 63

-- ---- the rules, each with what is said where it is broken
-- there is no node, or there are too many
abbrev pub nodes_range : Limits → ℕ → Option PursuitError
nodes_range limits nodes = if (nodes == 0) || nat_lt (most_nodes limits) nodes then Some NodesRange else None

-- the last edge has one node alone
abbrev pub edge_odd : List ℕ → Option PursuitError
edge_odd edges = if length edges % 2 == 1 then Some EdgeOdd else None

-- the first number of the edges that is no node
abbrev pub edge_range : ℕ → List ℕ → Option PursuitError
edge_range nodes edges = option_map EdgeRange (position (λ node. nat_le nodes node) edges)

-- the number of the first edge that joins a node with itself
abbrev pub first_loop : List ℕ → Option ℕ
first_loop edges = position (λ edge. first_node edges edge == second_node edges edge) (edge_numbers edges)

-- the place of its first number
abbrev pub edge_loop : List ℕ → Option PursuitError
edge_loop edges = option_map (λ edge. EdgeLoop (2 * edge)) (first_loop edges)

-- a player stands on no node, One first
abbrev pub place_range : ℕ → ℕ → ℕ → Option PursuitError
place_range nodes one two =
    if nat_le nodes one then Some (PlaceRange One) else
    if nat_le nodes two then Some (PlaceRange Two) else
    None

-- there are too many rounds
abbrev pub rounds_range : Limits → ℕ → Option PursuitError
rounds_range limits rounds = if nat_lt (most_rounds limits) rounds then Some RoundsRange else None

-- the first rule that is broken
abbrev pub first_fault : Limits → ℕ → List ℕ → ℕ → ℕ → ℕ → Option PursuitError
first_fault limits nodes edges one two rounds = first_some (
    nodes_range limits nodes ∷ edge_odd edges ∷ edge_range nodes edges ∷
    edge_loop edges ∷ place_range nodes one two ∷ rounds_range limits rounds ∷ [])

-- ---- positions
-- the setting holds these nodes, edges, players and rounds
pub record IsSettingOf (nodes : ℕ) (edges : List ℕ) (one two rounds : ℕ) (g : Setting) : Type 0 where
  pub nodes_is : g.nodes ≡ nodes
  pub one_is : g.one ≡ one
  pub two_is : g.two ≡ two
  pub rounds_is : g.rounds ≡ rounds
  pub sets : length g.neighbours ≡ MOST_NODES
  -- the neighbours of a node are those that some edge joins with it
  pub joined : (a b : ℕ) → is_joined_in g.neighbours a b ≡ is_joined edges a b

-- the setting can be played, within the wide limits
pub record IsPosition (g : Setting) : Type 0 where
  pub nodes_low : 1 ≤ g.nodes
  pub nodes_high : g.nodes ≤ most_nodes Wide
  pub one_below : g.one < g.nodes
  pub two_below : g.two < g.nodes
  pub rounds_high : g.rounds ≤ most_rounds Wide
  pub within : (node : ℕ) → slice_index g.neighbours node < 2 ^ g.nodes
  pub no_loop : (node : ℕ) → is_joined_in g.neighbours node node ≡ false
