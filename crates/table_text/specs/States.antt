-- The states that a JSON value tells: first their kinds, then their form.
use Rattle.std.specs.Prelude.{◌≡◌, ◌++◌, ◌==◌, length, ℕ, suc, ℤ, pos, negsuc, unsigned_abs, slice_index_or, Bool, ◌&&◌, ◌||◌, if◌then◌else◌, List, [], ◌∷◌, map, is_some, Option, Some, None, unwrap_or, option_map, Result, Ok, Err}
use Rattle.std.specs.List.{list_all, flat_map}
use Rattle.serde_json.specs.Data.{Data}
use Rattle.serde_json.specs.Find.{as_array}
use Rattle.sim_game.specs.declared.Limits.{Limits}
use Rattle.table.specs.Lists.{Lists as TableLists}
use Rattle.table.specs.Nested.{CellForm, Follows, Draws, StateForm, End, Rows, are_in_range, lists_of_states, cells_told, draws_of_form, draw_told, reward_told, moves_told, values_told, kept_cells, kept_draws, greatest_in, named_by}
use Rattle.fields.specs.declared.positions.PositionText.{PositionText}
use Rattle.fields.specs.declared.positions.PositionText.TheVariants as texts
use Rattle.table_text.specs.declared.fault.StatesFault.{StatesFault}
use Rattle.table_text.specs.declared.fault.StatesFault.TheVariants as faults
use Rattle.table_text.specs.declared.lists.DrawLists.{DrawLists}
use Rattle.table_text.specs.declared.lists.Cells.{Cells}
use Rattle.table_text.specs.declared.lists.Lists.{Lists}
use Rattle.table_text.specs.Elements.{list_of, whole_in, is_whole}

-- the elements of a list, and none of what is no list
abbrev pub elements_of : Data → List Data
elements_of d = unwrap_or (option_map list_of (as_array d)) []

-- ---- kinds
-- a list, each of whose elements passes the test
abbrev pub is_list_of : (Data → Bool) → Data → Bool
is_list_of test d = is_some (as_array d) && list_all test (elements_of d)

abbrev pub is_draw_kind : Data → Bool
is_draw_kind d = is_list_of is_whole d

abbrev pub is_cell_kind : Data → Bool
is_cell_kind d = is_whole d || is_list_of is_draw_kind d

abbrev pub is_row_kind : Data → Bool
is_row_kind d = is_list_of is_cell_kind d

abbrev pub is_state_kind : Data → Bool
is_state_kind d = is_whole d || is_list_of is_row_kind d

abbrev pub are_state_kinds : Data → Bool
are_state_kinds d = is_list_of is_state_kind d

-- ---- the form of what has the right kind
abbrev pub whole_of : Data → ℤ
whole_of d = unwrap_or (whole_in d) (pos 0)

abbrev pub draw_form_of : Data → List ℤ
draw_form_of d = map whole_of (elements_of d)

abbrev pub cell_form_of : Data → CellForm
cell_form_of d = if is_whole d then Follows (whole_of d) else Draws (map draw_form_of (elements_of d))

abbrev pub row_form_of : Data → List CellForm
row_form_of d = map cell_form_of (elements_of d)

abbrev pub state_form_of : Data → StateForm
state_form_of d = if is_whole d then End (whole_of d) else Rows (map row_form_of (elements_of d))

abbrev pub forms_of : Data → List StateForm
forms_of d = map state_form_of (elements_of d)

-- the same, where each kind is right
unfoldable pub forms_in : Data → Option (List StateForm)
forms_in d = if are_state_kinds d then Some (forms_of d) else None

-- ---- the text of the position
abbrev pub table_text_of : TableLists → PositionText
table_text_of l = texts.Table l.ranks l.moves l.values l.cells l.draws l.rewards

abbrev pub text_of_forms : Limits → Option (List StateForm) → Result PositionText StatesFault
text_of_forms limits None = Err faults.Kind
text_of_forms limits (Some forms) = if are_in_range limits forms then Ok (table_text_of (lists_of_states forms)) else Err faults.Range

unfoldable pub table_text_in : Limits → Data → Result PositionText StatesFault
table_text_in limits d = text_of_forms limits (forms_in d)

-- What a function returned, seen by view, is what reading gives, unless memory ran out.
abbrev pub Fails : {Y : Type 0} → StatesFault → Result Y StatesFault → Type 0
Fails faults.NoMemory read = Unit {0}
Fails e read = read ≡ Err e

abbrev pub Gives : {X Y : Type 0} → (X → Y) → Result X StatesFault → Result Y StatesFault → Type 0
Gives view (Ok x) read = read ≡ Ok (view x)
Gives view (Err e) read = Fails e read

-- ---- the lists so far
-- none of the draws tells a reward
abbrev pub are_unpaid : List (List ℤ) → Bool
are_unpaid draws = list_all (λ (draw : List ℤ). length draw == 2) draws

-- these are the lists of the draws
pub record AreDrawsOf (draws : List (List ℤ)) (lists : DrawLists) : Type 0 where
  pub numbers : lists.numbers.items ≡ flat_map draw_told draws
  pub rewards : lists.rewards.items ≡ map reward_told draws
  pub unpaid : lists.unpaid ≡ are_unpaid draws

-- the draws stand behind those before
pub record AddsDraws (old new : DrawLists) (draws : List (List ℤ)) : Type 0 where
  pub numbers : new.numbers.items ≡ old.numbers.items ++ flat_map draw_told draws
  pub rewards : new.rewards.items ≡ old.rewards.items ++ map reward_told draws
  pub unpaid : new.unpaid ≡ (old.unpaid && are_unpaid draws)

-- the cells stand behind those before
pub record AddsCells (old new : Cells) (cells : List CellForm) : Type 0 where
  pub numbers : new.numbers.items ≡ old.numbers.items ++ cells_told (length old.draws.rewards.items) cells
  pub draws : AddsDraws old.draws new.draws (flat_map draws_of_form cells)

-- the state stands behind those before
pub record AddsState (old new : Lists) (form : StateForm) : Type 0 where
  pub moves : new.moves.items ≡ old.moves.items ++ moves_told form
  pub values : new.values.items ≡ old.values.items ++ values_told (length old.cells.numbers.items) (form ∷ [])
  pub cells : AddsCells old.cells new.cells (kept_cells form)

-- these are the lists of the states, but for the ranks
pub record AreListsOf (forms : List StateForm) (lists : Lists) : Type 0 where
  pub moves : lists.moves.items ≡ flat_map moves_told forms
  pub values : lists.values.items ≡ values_told 0 forms
  pub cells : lists.cells.numbers.items ≡ cells_told 0 (flat_map kept_cells forms)
  pub draws : AreDrawsOf (kept_draws forms) lists.cells.draws

-- ---- ranks
-- the rank of the state of this number, and 0 where there is none
abbrev pub rank_in : List ℤ → ℤ → ℕ
rank_in ranks (pos n) = unsigned_abs (slice_index_or ranks n (pos 0))
rank_in ranks (negsuc n) = 0

-- the rank of a state, where each state up to it has the rank 0
abbrev pub rank_among : List ℤ → StateForm → ℕ
rank_among ranks (End payoff) = 0
rank_among ranks (Rows rows) = suc (greatest_in (map (rank_in ranks) (flat_map named_by (kept_cells (Rows rows)))))
