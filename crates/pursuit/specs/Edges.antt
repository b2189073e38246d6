-- Edges: a list of pairs of nodes, one pair after the other, and the set of neighbours of each node.
use Rattle.std.specs.Prelude.{ℕ, Bool, ◌+◌, ◌*◌, ◌/◌, ◌||◌, ◌&&◌, ◌==◌, List, length, slice_index}
use Rattle.std.specs.List.{list_any, range_with_len}
use Rattle.state_key.specs.Sets.{is_in}

-- both nodes of the edge of this number
abbrev pub first_node : List ℕ → ℕ → ℕ
first_node edges edge = slice_index edges (2 * edge)

abbrev pub second_node : List ℕ → ℕ → ℕ
second_node edges edge = slice_index edges (2 * edge + 1)

-- the numbers of the edges
abbrev pub edge_numbers : List ℕ → List ℕ
edge_numbers edges = range_with_len 0 (length edges / 2)

-- the edge of this number joins a and b, in either order
abbrev pub joins : List ℕ → ℕ → ℕ → ℕ → Bool
joins edges a b edge =
    ((first_node edges edge == a) && (second_node edges edge == b)) ||
    ((second_node edges edge == a) && (first_node edges edge == b))

-- some edge joins them
abbrev pub is_joined : List ℕ → ℕ → ℕ → Bool
is_joined edges a b = list_any (joins edges a b) (edge_numbers edges)

-- b is in the set of neighbours of a
abbrev pub is_joined_in : List ℕ → ℕ → ℕ → Bool
is_joined_in sets a b = is_in (slice_index sets a) b
