-- A table as a position tells it: states, whose cells name states by their numbers.
use Rattle.std.specs.Prelude.{ℕ, suc, ◌+◌, ◌-◌, ◌==◌, nat_le, nat_lt, max, ℤ, pos, negsuc, neg_ℤ, int_le, Bool, not, ◌&&◌, if◌then◌else◌, List, [], ◌∷◌, length, map, sum, slice_index, slice_index_or}
use Rattle.std.specs.List.{flat_map, list_all}
use Rattle.sim_game.specs.declared.Limits.{Limits}
use Rattle.sim_game.specs.declared.Limits.TheVariants.{Narrow, Wide}
use Rattle.table.specs.declared.nested.TheConstants.{MOST_STATES}
use Rattle.table.specs.Lists.{Lists}

-- the state that follows for certain, or draws: each is a list of numbers, first the state, then its weight, then the
-- reward, where it has one
pub data CellForm : Type 0 where
  Follows : ℤ → CellForm
  Draws : List (List ℤ) → CellForm

-- an end, by its payoff to One, or a row for each move of One with a cell for each move of Two
pub data StateForm : Type 0 where
  End : ℤ → StateForm
  Rows : List (List CellForm) → StateForm

-- ---- what is in range
abbrev pub is_within : ℤ → ℤ → ℤ → Bool
is_within low high z = int_le low z && int_le z high

-- the greatest number that a cell, or a draw, can have for a state, and the greatest weight
abbrev pub most_state : Limits → ℕ
most_state Narrow = 1048575
most_state Wide = 16777215

abbrev pub names_state : Limits → ℤ → Bool
names_state limits z = is_within (pos 0) (pos (most_state limits)) z

abbrev pub is_reward : ℤ → Bool
is_reward z = is_within (neg_ℤ (pos 1000000)) (pos 1000000) z

-- the reward of a draw, and 0 where it has none
abbrev pub reward_told : List ℤ → ℤ
reward_told draw = slice_index_or draw 2 (pos 0)

abbrev pub draw_in_range : Limits → List ℤ → Bool
draw_in_range limits draw =
    nat_le 2 (length draw) && nat_le (length draw) 3
    && (names_state limits (slice_index_or draw 0 (pos 0)) && names_state limits (slice_index_or draw 1 (pos 0)) && is_reward (reward_told draw))

abbrev pub cell_in_range : Limits → CellForm → Bool
cell_in_range limits (Follows state) = names_state limits state
cell_in_range limits (Draws draws) = nat_le (length draws) 255 && list_all (draw_in_range limits) draws

abbrev pub row_in_range : Limits → List CellForm → Bool
row_in_range limits row = nat_le (length row) 255 && list_all (cell_in_range limits) row

abbrev pub state_in_range : Limits → StateForm → Bool
state_in_range limits (End payoff) = is_within (neg_ℤ (pos 1000000)) (pos 1000000) payoff
state_in_range limits (Rows rows) = nat_le (length rows) 255 && list_all (row_in_range limits) rows

-- all cells of the state
abbrev pub given_cells : StateForm → List CellForm
given_cells (End payoff) = []
given_cells (Rows rows) = flat_map (λ row. row) rows

abbrev pub draws_of_form : CellForm → List (List ℤ)
draws_of_form (Follows state) = []
draws_of_form (Draws draws) = draws

abbrev pub draw_count_of : List CellForm → ℕ
draw_count_of cells = sum (map (λ cell. length (draws_of_form cell)) cells)

-- The states, the cells and the draws are not too many. One draw fewer may stand there, since a cell that has none names
-- the draw that would come next.
abbrev pub are_few : ℕ → ℕ → ℕ → Bool
are_few states cells draws = nat_le states MOST_STATES && (nat_le cells MOST_STATES && nat_lt draws MOST_STATES)

abbrev pub are_in_range : Limits → List StateForm → Bool
are_in_range limits forms =
    list_all (state_in_range limits) forms
    && are_few (length forms) (length (flat_map given_cells forms)) (draw_count_of (flat_map given_cells forms))

-- ---- what is kept of a state
-- the length of each row, and 0 where they are not equally long, or there is none
abbrev pub columns_in : List (List CellForm) → ℕ
columns_in [] = 0
columns_in (row ∷ rows) = if list_all (λ (other : List CellForm). length other == length row) rows then length row else 0

-- the cells of the state, and none where its rows are not equally long
abbrev pub kept_cells : StateForm → List CellForm
kept_cells (End payoff) = []
kept_cells (Rows rows) = if columns_in rows == 0 then [] else flat_map (λ row. row) rows

-- ---- the lists
abbrev pub moves_told : StateForm → List ℤ
moves_told (End payoff) = pos 0 ∷ pos 0 ∷ []
moves_told (Rows rows) = pos (length rows) ∷ pos (columns_in rows) ∷ []

-- the values of the states before which there are so many cells
abbrev pub values_told : ℕ → List StateForm → List ℤ
values_told cells [] = []
values_told cells (End payoff ∷ forms) = payoff ∷ values_told cells forms
values_told cells (Rows rows ∷ forms) = pos cells ∷ values_told (cells + length (kept_cells (Rows rows))) forms

-- the numbers that stand for the cells before which there are so many draws
abbrev pub cells_told : ℕ → List CellForm → List ℤ
cells_told draws [] = []
cells_told draws (Follows state ∷ cells) = state ∷ cells_told draws cells
cells_told draws (Draws more ∷ cells) = negsuc draws ∷ cells_told (draws + length more) cells

-- the state and the weight of a draw
abbrev pub draw_told : List ℤ → List ℤ
draw_told draw = slice_index_or draw 0 (pos 0) ∷ slice_index_or draw 1 (pos 0) ∷ []

-- the states and the weights of the draws of a cell
abbrev pub draws_told : CellForm → List ℤ
draws_told cell = flat_map draw_told (draws_of_form cell)

-- the draws of the cells that are kept
abbrev pub kept_draws : List StateForm → List (List ℤ)
kept_draws forms = flat_map draws_of_form (flat_map kept_cells forms)

-- some of them has a reward
abbrev pub has_paid_draw : List StateForm → Bool
has_paid_draw forms = not (list_all (λ (draw : List ℤ). length draw == 2) (kept_draws forms))

-- their rewards; no numbers where none of them has one
abbrev pub rewards_told : List StateForm → List ℤ
rewards_told forms = if has_paid_draw forms then map reward_told (kept_draws forms) else []

-- ---- ranks
-- the states that the cell names
abbrev pub named_by : CellForm → List ℤ
named_by (Follows state) = state ∷ []
named_by (Draws draws) = map (λ (draw : List ℤ). slice_index_or draw 0 (pos 0)) draws

abbrev pub greatest_in : List ℕ → ℕ
greatest_in [] = 0
greatest_in (n ∷ ns) = max n (greatest_in ns)

-- the rank of the state of this number, which stands behind the state s and is there, else 0; given the ranks of all
-- states behind s
abbrev pub rank_behind : ℕ → List ℕ → ℤ → ℕ
rank_behind s behind (negsuc n) = 0
rank_behind s behind (pos n) = if nat_le n s then 0 else slice_index behind (n - suc s)

-- the rank of a state, given those of the states behind it
abbrev pub rank_told : ℕ → List ℕ → StateForm → ℕ
rank_told s behind (End payoff) = 0
rank_told s behind (Rows rows) = suc (greatest_in (map (rank_behind s behind) (flat_map named_by (kept_cells (Rows rows)))))

-- the ranks of states, the first of which has this number
abbrev pub ranks_told : ℕ → List StateForm → List ℕ
ranks_told s [] = []
ranks_told s (form ∷ forms) = let behind = ranks_told (suc s) forms in rank_told s behind form ∷ behind

abbrev pub lists_of_states : List StateForm → Lists
lists_of_states forms = record {
  ranks = map pos (ranks_told 0 forms);
  moves = flat_map moves_told forms;
  values = values_told 0 forms;
  cells = cells_told 0 (flat_map kept_cells forms);
  draws = flat_map draws_told (flat_map kept_cells forms);
  rewards = rewards_told forms;
}
