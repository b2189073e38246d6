-- A path of three nodes with the players at its ends, and first faults, computed by hand.
use Rattle.std.proofs.Common.{◌≡◌, true, [], ◌∷◌, pos, neg_ℤ, None, Some, refl}
use Rattle.sim_game.specs.declared.Limits.TheVariants.{Narrow, Wide}
use Rattle.sim_game.specs.declared.Side.TheVariants.{One, Two}
use Rattle.plan_book.specs.Serial.{serial_bound}
use Rattle.pursuit.specs.declared.PursuitError.TheVariants.{NodesRange, EdgeOdd, EdgeRange, EdgeLoop, PlaceRange, RoundsRange}
use Rattle.pursuit.specs.declared.State.{State}
use Rattle.pursuit.specs.Position.{first_fault}
use Rattle.pursuit.specs.Rules.{Graph, after_round, first_of, game_from, graph_from, graph_of_edges, key_bits, pursuit_key, pursuit_payoff, pursuit_rank, reach, ways, width_of}

abbrev path : Graph
path = graph_of_edges 3 (0 ∷ 1 ∷ 1 ∷ 2 ∷ [])

abbrev one_round : State
one_round = first_of 0 2 1

abbrev two_rounds : State
two_rounds = first_of 0 2 2

-- One has come to the middle, Two has stayed
abbrev in_the_middle : State
in_the_middle = after_round two_rounds 1 2

key_one_round : pursuit_key 5 one_round ≡ 1026
key_one_round = refl

key_two_rounds : pursuit_key 5 two_rounds ≡ 2050
key_two_rounds = refl

key_in_the_middle : pursuit_key 5 in_the_middle ≡ 1058
key_in_the_middle = refl

key_caught : pursuit_key 5 (after_round in_the_middle 2 2) ≡ 32834
key_caught = refl

-- beyond the narrow limits by the nodes, or by the rounds
wide_by_nodes : key_bits 33 1 ≡ 6
wide_by_nodes = refl

wide_by_rounds : key_bits 2 32 ≡ 6
wide_by_rounds = refl

narrow_of_both : key_bits 32 31 ≡ 5
narrow_of_both = refl

key_wide : pursuit_key 6 (first_of 40 2 33) ≡ 137730
key_wide = refl

key_wide_caught : pursuit_key 6 (first_of 63 63 63) ≡ 524287
key_wide_caught = refl

width_of_path : width_of path ≡ 3
width_of_path = refl

from_an_end : ways path One two_rounds ≡ 0 ∷ 1 ∷ []
from_an_end = refl

from_the_middle : ways path One in_the_middle ≡ 0 ∷ 1 ∷ 2 ∷ []
from_the_middle = refl

nowhere_without_rounds : ways path Two (after_round one_round 0 2) ≡ []
nowhere_without_rounds = refl

-- the sets of neighbours give the same list
sets_of_path : reach (graph_from 3 (2 ∷ 5 ∷ 2 ∷ [])) 1 ≡ reach path 1
sets_of_path = refl

edge_twice : reach (graph_of_edges 3 (1 ∷ 0 ∷ 0 ∷ 1 ∷ 1 ∷ 2 ∷ [])) 1 ≡ 0 ∷ 1 ∷ 2 ∷ []
edge_twice = refl

places_changed : after_round in_the_middle 2 1 ≡ record { one = 2; two = 1; rounds = 0; caught = true }
places_changed = refl

caught_in_the_last_round : pursuit_payoff (after_round in_the_middle 2 1) ≡ pos 1
caught_in_the_last_round = refl

escaped : pursuit_payoff (after_round one_round 1 2) ≡ neg_ℤ (pos 1)
escaped = refl

caught_at_once : pursuit_rank (first_of 1 1 5) ≡ 0
caught_at_once = refl

-- one round is too few, and two are enough
too_few_for_one : serial_bound (game_from path one_round) One one_round ≡ neg_ℤ (pos 1000000)
too_few_for_one = refl

too_few_for_two : serial_bound (game_from path one_round) Two one_round ≡ neg_ℤ (pos 1000000)
too_few_for_two = refl

enough_for_one : serial_bound (game_from path two_rounds) One two_rounds ≡ pos 1000000
enough_for_one = refl

enough_for_two : serial_bound (game_from path two_rounds) Two two_rounds ≡ pos 1000000
enough_for_two = refl

-- first faults
nodes_first : first_fault Wide 0 (9 ∷ []) 9 9 32 ≡ Some NodesRange
nodes_first = refl

too_many_nodes : first_fault Narrow 33 [] 0 0 0 ≡ Some NodesRange
too_many_nodes = refl

odd_before_range : first_fault Narrow 3 (0 ∷ 1 ∷ 9 ∷ []) 0 2 1 ≡ Some EdgeOdd
odd_before_range = refl

range_before_loop : first_fault Narrow 3 (1 ∷ 1 ∷ 0 ∷ 3 ∷ []) 9 9 32 ≡ Some (EdgeRange 3)
range_before_loop = refl

loop_of_the_third : first_fault Narrow 3 (0 ∷ 1 ∷ 1 ∷ 2 ∷ 2 ∷ 2 ∷ 1 ∷ 1 ∷ []) 9 9 32 ≡ Some (EdgeLoop 4)
loop_of_the_third = refl

one_before_two : first_fault Narrow 3 (0 ∷ 1 ∷ []) 3 9 32 ≡ Some (PlaceRange One)
one_before_two = refl

two_before_rounds : first_fault Narrow 3 (0 ∷ 1 ∷ []) 2 9 32 ≡ Some (PlaceRange Two)
two_before_rounds = refl

rounds_last : first_fault Narrow 3 (0 ∷ 1 ∷ []) 2 2 32 ≡ Some RoundsRange
rounds_last = refl

no_fault : first_fault Narrow 32 [] 31 31 31 ≡ None
no_fault = refl

too_many_wide_nodes : first_fault Wide 65 [] 0 0 0 ≡ Some NodesRange
too_many_wide_nodes = refl

too_many_wide_rounds : first_fault Wide 64 [] 63 63 64 ≡ Some RoundsRange
too_many_wide_rounds = refl

no_wide_fault : first_fault Wide 64 [] 63 63 63 ≡ None
no_wide_fault = refl
