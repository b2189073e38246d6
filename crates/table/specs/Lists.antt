-- The six lists of a table, and what is read of them.
use Rattle.std.specs.Prelude.{ℕ, zero, suc, ◌+◌, ◌-◌, ◌*◌, ◌/◌, max, ℤ, pos, negsuc, neg_ℤ, unsigned_abs, Bool, not, ◌==◌, if◌then◌else◌, List, [], ◌∷◌, length, drop, slice_index_or}
use Rattle.std.specs.Int.{int_max, int_min}
use Rattle.sim_game.specs.declared.Side.{Side}
use Rattle.sim_game.specs.declared.Side.TheVariants.{One, Two}
use Rattle.sim_game.specs.Model.{whole_chance}
use Rattle.table.specs.Below.{all_below, highest_below}

-- what a position holds; states, moves, cells and draws are numbered from 0
pub record Lists : Type 0 where
  -- of each state: 0 for an end, else the turns of the longest way to one
  pub ranks : List ℤ
  -- of each state One's moves, then Two's
  pub moves : List ℤ
  -- of each state the payoff, where it is an end, else the place of its first cell
  pub values : List ℤ
  -- the cells of all states: the state that follows, or -1 - d where d is the number of the first draw
  pub cells : List ℤ
  -- of each draw the state and the weight
  pub draws : List ℤ
  -- of each draw what One gets by it; no numbers where no turn pays
  pub rewards : List ℤ

abbrev pub lists_from : List ℤ → List ℤ → List ℤ → List ℤ → List ℤ → List ℤ → Lists
lists_from ranks moves values cells draws rewards = record { ranks = ranks; moves = moves; values = values; cells = cells; draws = draws; rewards = rewards }

-- a number of a list of which no number is below 0
abbrev pub count_in : List ℤ → ℕ → ℕ
count_in ns i = unsigned_abs (slice_index_or ns i (pos 0))

-- ---- states
abbrev pub state_count : Lists → ℕ
state_count l = length l.ranks

abbrev pub table_rank : Lists → ℕ → ℕ
table_rank l s = count_in l.ranks s

abbrev pub table_moves : Lists → Side → ℕ → ℕ
table_moves l One s = count_in l.moves (2 * s)
table_moves l Two s = count_in l.moves (2 * s + 1)

abbrev pub table_value : Lists → ℕ → ℤ
table_value l s = slice_index_or l.values s (pos 0)

-- how many cells a state has
abbrev pub cells_of : Lists → ℕ → ℕ
cells_of l s = table_moves l One s * table_moves l Two s

-- the place in the list of a state's cell, by its place among those of the state
abbrev pub place_at : Lists → ℕ → ℕ → ℕ
place_at l s k = unsigned_abs (table_value l s) + k

-- ---- cells
abbrev pub draw_total : Lists → ℕ
draw_total l = length l.draws / 2

-- where the draws of a cell end: where those of the next cell with draws begin, or with the list
abbrev pub draws_end : List ℤ → ℕ → ℕ
draws_end [] total = total
draws_end (pos state ∷ cells) total = draws_end cells total
draws_end (negsuc first ∷ cells) total = first

-- the number of a cell's first draw, and 0 where the cell is a state
abbrev pub first_draw : ℤ → ℕ
first_draw (pos state) = 0
first_draw (negsuc first) = first

-- how many draws a cell has, where its draws end there
abbrev pub count_of : ℤ → ℕ → ℕ
count_of (pos state) last = 1
count_of (negsuc first) last = last - first

-- the state of a draw of a cell
abbrev pub draw_state : List ℤ → ℤ → ℕ → ℕ
draw_state draws (pos state) d = state
draw_state draws (negsuc first) d = count_in draws (2 * (first + d))

-- the weight of a draw of a cell
abbrev pub draw_weight : List ℤ → ℤ → ℕ → ℕ
draw_weight draws (pos state) d = whole_chance
draw_weight draws (negsuc first) d = count_in draws (2 * (first + d) + 1)

-- the reward of a draw of a cell
abbrev pub draw_reward : List ℤ → ℤ → ℕ → ℤ
draw_reward rewards (pos state) d = pos 0
draw_reward rewards (negsuc first) d = slice_index_or rewards (first + d) (pos 0)

-- the same of the cell at a place of the list
abbrev pub table_cell : Lists → ℕ → ℤ
table_cell l place = slice_index_or l.cells place (pos 0)

abbrev pub end_at : Lists → ℕ → ℕ
end_at l place = draws_end (drop (place + 1) l.cells) (draw_total l)

abbrev pub draws_at : Lists → ℕ → ℕ
draws_at l place = count_of (table_cell l place) (end_at l place)

abbrev pub table_state : Lists → ℕ → ℕ → ℕ
table_state l place d = draw_state l.draws (table_cell l place) d

abbrev pub table_weight : Lists → ℕ → ℕ → ℕ
table_weight l place d = draw_weight l.draws (table_cell l place) d

abbrev pub table_reward : Lists → ℕ → ℕ → ℤ
table_reward l place d = draw_reward l.rewards (table_cell l place) d

-- ---- ranks
-- the greatest rank of the states that a cell names
abbrev pub cell_rank : Lists → ℕ → ℕ
cell_rank l place = highest_below (draws_at l place) (λ d. table_rank l (table_state l place d))

-- the greatest rank of the states that the state's cells name
abbrev pub next_rank : Lists → ℕ → ℕ
next_rank l s = highest_below (cells_of l s) (λ k. cell_rank l (place_at l s k))

-- ---- the whole list
-- turns pay
abbrev pub has_rewards : Lists → Bool
has_rewards l = not (length l.rewards == 0)

-- the least payoff among the ends of the first states, and 4000
abbrev pub least_of : Lists → ℕ → ℤ
least_of l zero = pos 4000
least_of l (suc s) = if table_rank l s == 0 then int_min (least_of l s) (table_value l s) else least_of l s

-- the greatest payoff among the ends of the first states, and -4000
abbrev pub greatest_of : Lists → ℕ → ℤ
greatest_of l zero = neg_ℤ (pos 4000)
greatest_of l (suc s) = if table_rank l s == 0 then int_max (greatest_of l s) (table_value l s) else greatest_of l s

-- the greatest number of moves, at least 1
abbrev pub table_width : Lists → ℕ
table_width l = max 1 (highest_below (length l.moves) (count_in l.moves))

-- each cell has one draw
abbrev pub is_chance_free : Lists → Bool
is_chance_free l = all_below (length l.cells) (λ place. draws_at l place == 1)
