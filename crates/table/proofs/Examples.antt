-- Tables computed by hand.
use Rattle.std.proofs.Common.{◌≡◌, ℕ, ◌+◌, ℤ, pos, negsuc, neg_ℤ, Bool, true, false, List, [], ◌∷◌, map, replicate, Option, None, Some, refl}
use Rattle.sim_game.specs.declared.Limits.TheVariants.{Narrow, Wide}
use Rattle.table.specs.declared.TableError.{TableError}
use Rattle.table.specs.declared.TableError.TheVariants as errors
use Rattle.table.specs.Faults.{first_fault}
use Rattle.table.specs.Lists.{Lists, lists_from}
use Rattle.table.specs.Nested.{CellForm, Follows, Draws, StateForm, End, Rows, are_in_range, lists_of_states}
use Rattle.table.specs.Rules.{table_game}

-- ---- matching pennies: One wins where the moves are the same
abbrev to : ℕ → CellForm
to state = Follows (pos state)

abbrev pair : CellForm → CellForm → List CellForm
pair c d = c ∷ d ∷ []

abbrev draw : ℕ → ℕ → List ℤ
draw state weight = pos state ∷ pos weight ∷ []

abbrev pennies : List StateForm
pennies = Rows (pair (to 1) (to 2) ∷ pair (to 2) (to 1) ∷ []) ∷ End (pos 1) ∷ End (neg_ℤ (pos 1)) ∷ []

pennies_in_range : are_in_range Narrow pennies ≡ true
pennies_in_range = refl

abbrev pennies_lists : Lists
pennies_lists = record {
  ranks = pos 1 ∷ pos 0 ∷ pos 0 ∷ [];
  moves = pos 2 ∷ pos 2 ∷ pos 0 ∷ pos 0 ∷ pos 0 ∷ pos 0 ∷ [];
  values = pos 0 ∷ pos 1 ∷ neg_ℤ (pos 1) ∷ [];
  cells = pos 1 ∷ pos 2 ∷ pos 2 ∷ pos 1 ∷ [];
  draws = [];
  rewards = [];
}

lists_of_pennies : lists_of_states pennies ≡ pennies_lists
lists_of_pennies = refl

pennies_fine : first_fault Narrow pennies_lists ≡ None
pennies_fine = refl

pennies_low : (table_game pennies_lists).low ≡ neg_ℤ (pos 1)
pennies_low = refl

pennies_high : (table_game pennies_lists).high ≡ pos 1
pennies_high = refl

pennies_width : (table_game pennies_lists).width ≡ 2
pennies_width = refl

pennies_chance_free : (table_game pennies_lists).chance_free ≡ true
pennies_chance_free = refl

pennies_differ : (table_game pennies_lists).drawn (record { number = 0 }) 0 1 0 ≡ record { number = 2 }
pennies_differ = refl

-- ---- two stages with draws
abbrev stages : List StateForm
stages =
    Rows (pair (to 2) (Draws (draw 2 120120 ∷ draw 5 240240 ∷ [])) ∷ pair (Draws (draw 1 90090 ∷ draw 6 270270 ∷ [])) (to 1) ∷ [])
    ∷ Rows (pair (to 3) (to 6) ∷ pair (to 6) (to 3) ∷ [])
    ∷ Rows (pair (to 3) (to 4) ∷ pair (to 5) (to 6) ∷ [])
    ∷ End (pos 5) ∷ End (pos 1) ∷ End (neg_ℤ (pos 1)) ∷ End (neg_ℤ (pos 5)) ∷ []

stages_in_range : are_in_range Narrow stages ≡ true
stages_in_range = refl

abbrev stages_lists : Lists
stages_lists = record {
  ranks = pos 2 ∷ pos 1 ∷ pos 1 ∷ pos 0 ∷ pos 0 ∷ pos 0 ∷ pos 0 ∷ [];
  moves = pos 2 ∷ pos 2 ∷ pos 2 ∷ pos 2 ∷ pos 2 ∷ pos 2 ∷ pos 0 ∷ pos 0 ∷ pos 0 ∷ pos 0 ∷ pos 0 ∷ pos 0 ∷ pos 0 ∷ pos 0 ∷ [];
  values = pos 0 ∷ pos 4 ∷ pos 8 ∷ pos 5 ∷ pos 1 ∷ neg_ℤ (pos 1) ∷ neg_ℤ (pos 5) ∷ [];
  cells = pos 2 ∷ negsuc 0 ∷ negsuc 2 ∷ pos 1 ∷ pos 3 ∷ pos 6 ∷ pos 6 ∷ pos 3 ∷ pos 3 ∷ pos 4 ∷ pos 5 ∷ pos 6 ∷ [];
  draws = pos 2 ∷ pos 120120 ∷ pos 5 ∷ pos 240240 ∷ pos 1 ∷ pos 90090 ∷ pos 6 ∷ pos 270270 ∷ [];
  rewards = [];
}

lists_of_stages : lists_of_states stages ≡ stages_lists
lists_of_stages = refl

stages_fine : first_fault Narrow stages_lists ≡ None
stages_fine = refl

stages_with_chance : (table_game stages_lists).chance_free ≡ false
stages_with_chance = refl

-- the last draws end with the list
stages_draws : (table_game stages_lists).draws (record { number = 0 }) 1 0 ≡ 2
stages_draws = refl

stages_chance : (table_game stages_lists).chance (record { number = 0 }) 0 1 1 ≡ 240240
stages_chance = refl

stages_drawn : (table_game stages_lists).drawn (record { number = 0 }) 1 0 1 ≡ record { number = 6 }
stages_drawn = refl

stages_certain : (table_game stages_lists).chance (record { number = 2 }) 1 1 0 ≡ 360360
stages_certain = refl

-- ---- turns that pay
abbrev paid : ℕ → ℕ → ℤ → List ℤ
paid state weight reward = pos state ∷ pos weight ∷ reward ∷ []

abbrev tolls : List StateForm
tolls =
    Rows (pair (Draws (paid 1 360360 (pos 2) ∷ [])) (to 1) ∷ pair (to 1) (Draws (paid 1 180180 (pos 1) ∷ paid 2 180180 (neg_ℤ (pos 1)) ∷ [])) ∷ [])
    ∷ Rows (pair (to 2) (to 3) ∷ pair (to 3) (to 2) ∷ [])
    ∷ End (pos 1) ∷ End (neg_ℤ (pos 1)) ∷ []

tolls_in_range : are_in_range Narrow tolls ≡ true
tolls_in_range = refl

abbrev tolls_lists : Lists
tolls_lists = record {
  ranks = pos 2 ∷ pos 1 ∷ pos 0 ∷ pos 0 ∷ [];
  moves = pos 2 ∷ pos 2 ∷ pos 2 ∷ pos 2 ∷ pos 0 ∷ pos 0 ∷ pos 0 ∷ pos 0 ∷ [];
  values = pos 0 ∷ pos 4 ∷ pos 1 ∷ neg_ℤ (pos 1) ∷ [];
  cells = negsuc 0 ∷ pos 1 ∷ pos 1 ∷ negsuc 1 ∷ pos 2 ∷ pos 3 ∷ pos 3 ∷ pos 2 ∷ [];
  draws = pos 1 ∷ pos 360360 ∷ pos 1 ∷ pos 180180 ∷ pos 2 ∷ pos 180180 ∷ [];
  rewards = pos 2 ∷ pos 1 ∷ neg_ℤ (pos 1) ∷ [];
}

lists_of_tolls : lists_of_states tolls ≡ tolls_lists
lists_of_tolls = refl

tolls_fine : first_fault Narrow tolls_lists ≡ None
tolls_fine = refl

tolls_reward : (table_game tolls_lists).reward (record { number = 0 }) 1 1 1 ≡ neg_ℤ (pos 1)
tolls_reward = refl

tolls_certain : (table_game tolls_lists).reward (record { number = 0 }) 0 1 0 ≡ pos 0
tolls_certain = refl

tolls_least : map (λ (s : ℕ). (table_game tolls_lists).least (record { number = s })) (0 ∷ 1 ∷ 2 ∷ 3 ∷ []) ≡ neg_ℤ (pos 1) ∷ neg_ℤ (pos 1) ∷ pos 1 ∷ neg_ℤ (pos 1) ∷ []
tolls_least = refl

tolls_most : map (λ (s : ℕ). (table_game tolls_lists).most (record { number = s })) (0 ∷ 1 ∷ 2 ∷ 3 ∷ []) ≡ pos 3 ∷ pos 1 ∷ pos 1 ∷ neg_ℤ (pos 1) ∷ []
tolls_most = refl

tolls_low : (table_game tolls_lists).low ≡ neg_ℤ (pos 1)
tolls_low = refl

tolls_high : (table_game tolls_lists).high ≡ pos 3
tolls_high = refl

-- a draw of two numbers has the reward 0
rewards_of_both : (lists_of_states (Rows ((Draws (draw 1 180180 ∷ paid 1 180180 (pos 5) ∷ []) ∷ []) ∷ []) ∷ End (pos 0) ∷ [])).rewards ≡ pos 0 ∷ pos 5 ∷ []
rewards_of_both = refl

-- draws that are not kept count for nothing
rewards_not_kept : (lists_of_states (Rows ((Draws (paid 1 360360 (pos 5) ∷ []) ∷ []) ∷ [] ∷ []) ∷ End (pos 0) ∷ [])).rewards ≡ []
rewards_not_kept = refl

-- rewards of 0 that were given are kept
zeros_are_kept : (lists_of_states (Rows ((Draws (paid 1 360360 (pos 0) ∷ []) ∷ []) ∷ []) ∷ End (pos 0) ∷ [])).rewards ≡ pos 0 ∷ []
zeros_are_kept = refl

-- ---- rows of unequal length have no cells
ragged_has_no_cells : lists_of_states (Rows (pair (to 1) (to 1) ∷ (to 1 ∷ []) ∷ []) ∷ End (pos 3) ∷ []) ≡ record {
  ranks = pos 1 ∷ pos 0 ∷ [];
  moves = pos 2 ∷ pos 0 ∷ pos 0 ∷ pos 0 ∷ [];
  values = pos 0 ∷ pos 3 ∷ [];
  cells = [];
  draws = [];
  rewards = [];
}
ragged_has_no_cells = refl

-- ---- a state that stands before, or is not there, has no rank
backward_has_rank_one : (lists_of_states (End (pos 0) ∷ Rows ((to 0 ∷ []) ∷ []) ∷ Rows ((to 7 ∷ []) ∷ []) ∷ [])).ranks ≡ pos 0 ∷ pos 1 ∷ pos 1 ∷ []
backward_has_rank_one = refl

-- ---- states that nothing leads to count for the range, the width and the chance
abbrev unreached : List StateForm
unreached = Rows ((to 3 ∷ []) ∷ []) ∷ Rows ((to 2 ∷ []) ∷ (to 2 ∷ []) ∷ (Draws (draw 2 180180 ∷ draw 3 180180 ∷ []) ∷ []) ∷ []) ∷ End (neg_ℤ (pos 7)) ∷ End (pos 0) ∷ []

unreached_fine : first_fault Narrow (lists_of_states unreached) ≡ None
unreached_fine = refl

unreached_low : (table_game (lists_of_states unreached)).low ≡ neg_ℤ (pos 7)
unreached_low = refl

unreached_high : (table_game (lists_of_states unreached)).high ≡ pos 0
unreached_high = refl

unreached_width : (table_game (lists_of_states unreached)).width ≡ 3
unreached_width = refl

unreached_chance : (table_game (lists_of_states unreached)).chance_free ≡ false
unreached_chance = refl

-- ---- forms out of range
abbrev in_range : StateForm → Bool
in_range form = are_in_range Narrow (form ∷ [])

high_end : in_range (End (pos 1000001)) ≡ false
high_end = refl

low_end : in_range (End (neg_ℤ (pos 1000001))) ≡ false
low_end = refl

lowest_end : in_range (End (neg_ℤ (pos 1000000))) ≡ true
lowest_end = refl

state_below_none : in_range (Rows ((Follows (neg_ℤ (pos 1)) ∷ []) ∷ [])) ≡ false
state_below_none = refl

weight_too_long : in_range (Rows ((Draws (draw 1 1048576 ∷ []) ∷ []) ∷ [])) ≡ false
weight_too_long = refl

-- within the wide limits
abbrev in_wide_range : StateForm → Bool
in_wide_range form = are_in_range Wide (form ∷ [])

longest_weight : in_wide_range (Rows ((Draws (draw 16777215 16777215 ∷ []) ∷ []) ∷ [])) ≡ true
longest_weight = refl

state_too_far : in_wide_range (Rows ((to 16777216 ∷ []) ∷ [])) ≡ false
state_too_far = refl

same_end : in_wide_range (End (pos 1000001)) ≡ false
same_end = refl

abbrev draw_in : List ℤ → Bool
draw_in numbers = in_range (Rows ((Draws (numbers ∷ []) ∷ []) ∷ []))

draw_of_one : draw_in (pos 1 ∷ []) ≡ false
draw_of_one = refl

draw_of_three : draw_in (pos 1 ∷ pos 2 ∷ neg_ℤ (pos 1000000) ∷ []) ≡ true
draw_of_three = refl

draw_of_four : draw_in (pos 1 ∷ pos 2 ∷ pos 3 ∷ pos 4 ∷ []) ≡ false
draw_of_four = refl

reward_too_low : draw_in (pos 1 ∷ pos 2 ∷ neg_ℤ (pos 1000001) ∷ []) ≡ false
reward_too_low = refl

most_rows : in_range (Rows (replicate 255 [])) ≡ true
most_rows = refl

too_many_rows : in_range (Rows (replicate 256 [])) ≡ false
too_many_rows = refl

too_many_cells : in_range (Rows (replicate 256 (to 1) ∷ [])) ≡ false
too_many_cells = refl

too_many_draws : in_range (Rows ((Draws (replicate 256 (draw 1 1)) ∷ []) ∷ [])) ≡ false
too_many_draws = refl

-- ---- what is told of forms in range: each refusal, and its place
abbrev told_of : List StateForm → Option TableError
told_of forms = first_fault Narrow (lists_of_states forms)

no_states : told_of [] ≡ Some errors.NoStates
no_states = refl

high_payoff : told_of (Rows [] ∷ End (pos 4000) ∷ End (neg_ℤ (pos 4001)) ∷ []) ≡ Some (errors.PayoffRange 2)
high_payoff = refl

no_rows : told_of (End (pos 0) ∷ Rows [] ∷ Rows [] ∷ []) ≡ Some (errors.RowsRange 1)
no_rows = refl

many_rows : told_of (Rows (replicate 33 (to 1 ∷ [])) ∷ End (pos 0) ∷ []) ≡ Some (errors.RowsRange 0)
many_rows = refl

abbrev told_wide : List StateForm → Option TableError
told_wide forms = first_fault Wide (lists_of_states forms)

most_rows_wide : told_wide (Rows (replicate 64 (to 1 ∷ [])) ∷ End (pos 0) ∷ []) ≡ None
most_rows_wide = refl

many_rows_wide : told_wide (Rows (replicate 65 (to 1 ∷ [])) ∷ End (pos 0) ∷ []) ≡ Some (errors.RowsRange 0)
many_rows_wide = refl

many_cells_wide : told_wide (Rows (replicate 65 (to 1) ∷ []) ∷ End (pos 0) ∷ []) ≡ Some (errors.CellsRange 0)
many_cells_wide = refl

no_cells : told_of (Rows ([] ∷ [] ∷ []) ∷ End (pos 0) ∷ []) ≡ Some (errors.CellsRange 0)
no_cells = refl

rows_differ : told_of (Rows ((to 2 ∷ []) ∷ []) ∷ Rows (pair (to 2) (to 2) ∷ (to 2 ∷ []) ∷ []) ∷ End (pos 0) ∷ []) ≡ Some (errors.CellsRange 1)
rows_differ = refl

-- the first of the two states without draws
no_draws : told_of (Rows (pair (to 2) (to 2) ∷ pair (Draws []) (to 2) ∷ []) ∷ Rows (pair (Draws []) (to 2) ∷ []) ∷ End (pos 0) ∷ []) ≡ Some (errors.DrawsRange 0 1 0)
no_draws = refl

many_draws : told_of (Rows (pair (to 1) (Draws (replicate 14 (draw 1 27720))) ∷ []) ∷ End (pos 0) ∷ []) ≡ Some (errors.DrawsRange 0 0 1)
many_draws = refl

most_draws : told_of (Rows (pair (to 1) (Draws (replicate 13 (draw 1 27720))) ∷ []) ∷ End (pos 0) ∷ []) ≡ None
most_draws = refl

one_short : told_of (Rows (pair (to 1) (to 1) ∷ pair (to 1) (Draws (draw 1 180180 ∷ draw 1 180179 ∷ [])) ∷ []) ∷ End (pos 0) ∷ []) ≡ Some (errors.Weights 0 1 1)
one_short = refl

weight_none : told_of (Rows ((Draws (draw 1 0 ∷ draw 1 360360 ∷ []) ∷ []) ∷ []) ∷ End (pos 0) ∷ []) ≡ Some (errors.Weights 0 0 0)
weight_none = refl

-- a weight comes before an order, whichever stands first
weights_first : told_of (Rows ((to 0 ∷ []) ∷ []) ∷ Rows ((Draws (draw 2 1 ∷ []) ∷ []) ∷ []) ∷ End (pos 0) ∷ []) ≡ Some (errors.Weights 1 0 0)
weights_first = refl

leads_nowhere : told_of (Rows (pair (to 1) (to 2) ∷ pair (to 0) (to 1) ∷ []) ∷ End (pos 0) ∷ []) ≡ Some (errors.Order 0 0 1)
leads_nowhere = refl

leads_to_itself : told_of (Rows ((to 1 ∷ []) ∷ []) ∷ Rows ((to 1 ∷ []) ∷ []) ∷ End (pos 0) ∷ []) ≡ Some (errors.Order 1 0 0)
leads_to_itself = refl

-- each state leads to the next
abbrev line_from : ℕ → List ℕ → List StateForm
line_from s [] = End (pos 0) ∷ []
line_from s (turn ∷ turns) = Rows ((to (s + 1) ∷ []) ∷ []) ∷ line_from (s + 1) turns

longest_line : told_of (line_from 0 (replicate 31 0)) ≡ None
longest_line = refl

line_too_long : told_of (line_from 0 (replicate 32 0)) ≡ Some (errors.Turns 0)
line_too_long = refl

longest_line_wide : told_wide (line_from 0 (replicate 63 0)) ≡ None
longest_line_wide = refl

line_too_long_wide : told_wide (line_from 0 (replicate 64 0)) ≡ Some (errors.Turns 0)
line_too_long_wide = refl

-- ---- lists that are those of no states
abbrev counts : List ℕ → List ℤ
counts = map pos

rank_missing : first_fault Narrow (lists_from (counts (1 ∷ 0 ∷ [])) (counts (2 ∷ 2 ∷ 0 ∷ 0 ∷ 0 ∷ 0 ∷ []))
    (pos 0 ∷ pos 1 ∷ negsuc 0 ∷ []) (pos 1 ∷ pos 2 ∷ pos 2 ∷ pos 1 ∷ []) [] []) ≡ Some errors.Lists
rank_missing = refl

moves_at_end : first_fault Narrow (lists_from (counts (0 ∷ [])) (counts (1 ∷ 0 ∷ [])) (pos 0 ∷ []) [] [] []) ≡ Some errors.Lists
moves_at_end = refl

draws_from_one : first_fault Narrow (lists_from (counts (1 ∷ 0 ∷ [])) (counts (1 ∷ 1 ∷ 0 ∷ 0 ∷ []))
    (pos 0 ∷ pos 1 ∷ []) (negsuc 1 ∷ []) (counts (1 ∷ 180180 ∷ 1 ∷ 360360 ∷ [])) []) ≡ Some errors.Lists
draws_from_one = refl

-- the draws of the second cell begin before those of the first
draws_fall : first_fault Narrow (lists_from (counts (1 ∷ 0 ∷ [])) (counts (1 ∷ 2 ∷ 0 ∷ 0 ∷ []))
    (pos 0 ∷ pos 0 ∷ []) (negsuc 1 ∷ negsuc 0 ∷ []) (counts (1 ∷ 360360 ∷ 1 ∷ 360360 ∷ [])) []) ≡ Some errors.Lists
draws_fall = refl

-- a cell that no state has
cell_too_many : first_fault Narrow (lists_from (counts (1 ∷ 0 ∷ [])) (counts (1 ∷ 1 ∷ 0 ∷ 0 ∷ [])) (pos 0 ∷ pos 0 ∷ []) (pos 1 ∷ pos 1 ∷ []) [] []) ≡ Some errors.Lists
cell_too_many = refl

-- lists of a report may have a rank that is no longest way
rank_too_high : first_fault Narrow (lists_from (counts (2 ∷ 0 ∷ 0 ∷ [])) (counts (2 ∷ 2 ∷ 0 ∷ 0 ∷ 0 ∷ 0 ∷ []))
    (pos 0 ∷ pos 1 ∷ negsuc 0 ∷ []) (pos 1 ∷ pos 2 ∷ pos 2 ∷ pos 1 ∷ []) [] []) ≡ Some (errors.Turns 0)
rank_too_high = refl

-- ---- sums out of range: the first such state, also where nothing leads there
abbrev toll : ℤ → StateForm
toll reward = Rows ((Draws (paid 2 360360 reward ∷ []) ∷ []) ∷ [])

sum_too_high : told_of (toll (pos 4001) ∷ toll (pos 4001) ∷ End (pos 0) ∷ []) ≡ Some (errors.Total 0)
sum_too_high = refl

sum_too_low : told_of (toll (neg_ℤ (pos 4000)) ∷ toll (neg_ℤ (pos 4000)) ∷ End (neg_ℤ (pos 1)) ∷ []) ≡ Some (errors.Total 0)
sum_too_low = refl

second_sum_too_high : told_of (toll (pos 1) ∷ toll (pos 4001) ∷ End (pos 0) ∷ []) ≡ Some (errors.Total 1)
second_sum_too_high = refl

highest_sum : told_of (toll (pos 3999) ∷ toll (neg_ℤ (pos 3999)) ∷ End (pos 1) ∷ []) ≡ None
highest_sum = refl

-- rewards and payoffs that are each out of the range of sums
back_in_range : told_of (toll (pos 8000) ∷ toll (pos 8000) ∷ End (neg_ℤ (pos 4000)) ∷ []) ≡ None
back_in_range = refl

-- one reward for two draws
reward_missing : first_fault Narrow (lists_from (counts (1 ∷ 0 ∷ [])) (counts (1 ∷ 1 ∷ 0 ∷ 0 ∷ []))
    (pos 0 ∷ pos 0 ∷ []) (negsuc 0 ∷ []) (counts (1 ∷ 180180 ∷ 1 ∷ 180180 ∷ [])) (pos 1 ∷ [])) ≡ Some errors.Lists
reward_missing = refl
