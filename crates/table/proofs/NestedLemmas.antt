-- The lists of a nested form fit each other, and their game is the one that the form tells.
use Rattle.std.proofs.Common.{◌≡◌, ℕ, zero, suc, ◌+◌, ◌-◌, ◌*◌, ◌%◌, ◌<◌, ◌≤◌, ℤ, pos, negsuc, Bool, true, ◌&&◌, ◌||◌, not, ◌+ℤ◌, cond, eqb, List, [], ◌∷◌, length, map, drop, get_or, false, Option, None, Some, refl, ap, sym, subst, ◌∙◌, ◌⊎◌, inl, inr, arith, add-one}
use Rattle.std.proofs.lemmas.Bool.{both_ways, or_left, or_right, and_from, and_parts, cases_lt, cond_both, cond-false, cond-true, eq-eqb, eqb-true, le-leb, ne_eqb}
use Rattle.std.proofs.lemmas.Bool.Decides.{Decides-int_eq}
use Rattle.std.proofs.lemmas.Int.{ints}
use Rattle.std.proofs.lemmas.List.{get_or-map, length-map}
use Rattle.std.proofs.lemmas.List.Concat.{get_or-flat_map}
use Rattle.std.proofs.lemmas.List.Folds.{length-flat_map-take}
use Rattle.std.specs.Int.RustNames.{unsigned_abs}
use Rattle.std.specs.List.{flat_map, list_all}
use Rattle.std.specs.Ordering.{int_eq}
use Rattle.sums.specs.Sums.{count_below}
use Rattle.sim_game.specs.declared.Side.{Side}
use Rattle.sim_game.specs.declared.Side.TheVariants.{One, Two}
use Rattle.sim_game.specs.Sides.{IsNoTighter}
use Rattle.sim_game.proofs.SideLemmas.{looser_left, looser_right}
use Rattle.sim_game.specs.declared.Limits.{Limits}
use Rattle.table.specs.declared.State.{State}
use Rattle.table.specs.declared.TableError.{TableError}
use Rattle.table.specs.declared.TableError.TheVariants as errors
use Rattle.table.specs.declared.rules.CellRule.TheVariants as CellRule
use Rattle.table.specs.declared.rules.Rule.TheVariants as Rule
use Rattle.table.specs.Below.{first_below, worst_upto}
use Rattle.table.specs.laws.Below.{all_at, all_from, greatest_high, or_none, or_there, worst_found}
use Rattle.table.specs.Faults.{AreOrdered, are_rewards, cell_fits, fault_at, is_rank, first_fault, most_table_turns, shape_fault, rule_fault, do_draws_fit, do_fit, do_states_fit, have_counts, state_fits}
use Rattle.table.specs.laws.Game.{bound_turn, is_inner, last_is_end, least_at, moves_width, pair_below, payoff_at, range_state}
use Rattle.table.specs.Lists.{Lists, cell_rank, next_rank, cells_of, count_in, count_of, draw_reward, draw_state, draw_total, draw_weight, draws_end, draws_at, end_at, first_draw, has_rewards, is_chance_free, place_at, state_count, table_cell, table_moves, table_rank, table_reward, table_state, table_value, table_weight, table_width}
use Rattle.table.specs.Nested.{CellForm, Follows, Draws, StateForm, End, Rows, are_in_range, cell_in_range, columns_in, draw_told, draws_of_form, greatest_in, has_paid_draw, kept_cells, lists_of_states, named_by, rank_behind, rank_told, ranks_told, reward_told, state_in_range}
use Rattle.table.specs.NestedGame.{cell_chance, cell_draws, cell_follows, cell_reward, form_at, form_cell, form_moves, form_sum, range_sum, rows_in, worst_sum, HaveMoves, HaveOneDraw, IsFormTurn, IsNestedGame, IsPaidFor, IsUnpaid}
use Rattle.table.specs.NestedRanks.{HaveLongestWays}
use Rattle.table.specs.Position.{IsTable}
use Rattle.table.specs.Rules.{place_of, table_game}
use Rattle.table.specs.Totals.{state_total, table_bound, table_range, turn_total, worst_payoff}
use Rattle.table.proofs.PayoffLemmas.{greatest_found, least_found, IsPaid}
use Rattle.table.proofs.PlaceLemmas.{cell_found, width_found}
use Rattle.table.proofs.PositionLemmas.{rank_no_higher, table_of}
use Rattle.table.proofs.RankLemmas.{bound_at_end, bound_found, turn_of_cell}
use Rattle.table.proofs.RangeLemmas.{forms_in_range}
use Rattle.table.proofs.RuleLemmas.{keeps_all, leads_behind}
use Rattle.table.proofs.WayLemmas.{behind_is, greatest_named, named_at, named_count, named_is, named_no_higher, rank_in}
use Rattle.table.proofs.FormLemmas.{all_in, all_unpaid, before, before_all, before_even, before_more, cell_told, cells_count, cells_in_range, columns_of, columns_told, count_before, counts_told, draw_at, draws_flat, ends_told, kept_cell, kept_count, later_ends_told, moves_count, number_told, rank_told_at, ranks_count, row_length, rows_told, some_paid, value_at_told, value_told, values_count, IsRanked}

-- ---- a state
state_fits_told : (form : StateForm) (rank one two cells : ℕ) (value : ℤ) → IsRanked form rank → one ≡ length (rows_in form) → two ≡ columns_of form → value ≡ value_told cells form
    → cond (eqb rank 0) (eqb one 0 && eqb two 0) (int_eq value (pos cells)) ≡ true
state_fits_told (End payoff) rank one two cells value ranked e f v = rw (eq-eqb rank 0 ranked, e, f) refl
state_fits_told (Rows rows) rank one two cells value ranked e f v =
    cond-false (eqb rank 0) (eqb one 0 && eqb two 0) (int_eq value (pos cells)) (ne_eqb rank 0 (λ z. absurd (omega arith))) ∙ (Decides-int_eq value (pos cells)).1 v

-- ---- a cell
first_low : (limits : Limits) (n : ℕ) (cell : CellForm) → cell_in_range limits cell ≡ true → first_draw (number_told n cell) ≤ n
first_low limits n (Follows (pos state)) fine = omega arith
first_low limits n (Follows (negsuc state)) fine = absurd (cc)
first_low limits n (Draws draws) fine = omega arith

count_told : (limits : Limits) (n last : ℕ) (cell : CellForm) → cell_in_range limits cell ≡ true → last ≡ n + length (draws_of_form cell) → count_of (number_told n cell) last ≡ cell_draws cell
count_told limits n last (Follows (pos state)) fine e = refl
count_told limits n last (Follows (negsuc state)) fine e = absurd (cc)
count_told limits n last (Draws draws) fine e = omega (arith, e)

first_row : (rows : List (List CellForm)) → 1 ≤ columns_in rows → length (get_or rows 0 []) ≡ columns_in rows
first_row [] some = absurd (omega arith)
first_row (row ∷ rows) some = row_length (row ∷ rows) 0 some (omega arith)

module _ (limits : Limits) (forms : List StateForm) (fine : list_all (state_in_range limits) forms ≡ true) where
  abbrev l : Lists
  l = lists_of_states forms

  abbrev cells : List CellForm
  cells = flat_map kept_cells forms

  abbrev draws : List (List ℤ)
  draws = flat_map draws_of_form cells

  cells_fine : list_all (cell_in_range limits) cells ≡ true
  cells_fine = cells_in_range limits forms fine

  -- ---- counts
  states_are : state_count l ≡ length forms
  states_are = ranks_count forms

  cells_are : length l.cells ≡ length cells
  cells_are = cells_count 0 cells

  draws_are : length l.draws ≡ 2 * length draws
  draws_are =
      ap length (draws_flat cells) ∙ sym (before_all draw_told draws) ∙ before_even draw_told draws [] 2 (λ k h. refl) (length draws) (omega arith) ∙ omega arith

  total_is : draw_total l ≡ length draws
  total_is = omega (arith, draws_are)

  -- ---- states
  one_is : (s : ℕ) → s < length forms → table_moves l One s ≡ length (rows_in (form_at forms s))
  one_is s here = rows_told forms s here

  two_is : (s : ℕ) → s < length forms → table_moves l Two s ≡ columns_of (form_at forms s)
  two_is s here = columns_told forms s here

  cells_in_state : (s : ℕ) → s < length forms → cells_of l s ≡ length (kept_cells (form_at forms s))
  cells_in_state s here = rw (one_is s here, two_is s here) (sym (kept_count (form_at forms s)))

  cells_before : (s : ℕ) → s ≤ length forms → count_below s (cells_of l) ≡ before kept_cells forms s
  cells_before s le = count_before kept_cells forms (End (pos 0)) (cells_of l) cells_in_state s le

  value_is : (s : ℕ) → s < length forms → table_value l s ≡ value_told (before kept_cells forms s) (form_at forms s)
  value_is s here = value_at_told 0 forms s here ∙ ap (λ (n : ℕ). value_told n (form_at forms s)) (omega arith)

  fits_at : (s : ℕ) → s < state_count l → state_fits l s ≡ true
  fits_at s below =
      let here : s < length forms = omega (arith, states_are) in
      let value : table_value l s ≡ value_told (count_below s (cells_of l)) (form_at forms s) = value_is s here ∙ ap (λ (n : ℕ). value_told n (form_at forms s)) (sym (cells_before s (omega arith))) in
      state_fits_told (form_at forms s) (table_rank l s) (table_moves l One s) (table_moves l Two s) (count_below s (cells_of l)) (table_value l s)
      (rank_told_at forms s here) (one_is s here) (two_is s here) value

  states_fit : do_states_fit l ≡ true
  states_fit =
      let all : length l.cells ≡ count_below (state_count l) (cells_of l) =
      cells_are ∙ sym (before_all kept_cells forms) ∙ sym (cells_before (length forms) (omega arith)) ∙ ap (λ (n : ℕ). count_below n (cells_of l)) (sym states_are) in
      and_from _ _ (all_from (state_count l) (state_fits l) fits_at) (eq-eqb _ _ all)

  rewards_fit : are_rewards l ≡ true
  rewards_fit = cond_both (has_paid_draw forms) (map reward_told draws) [] (λ (ns : List ℤ). (eqb (length ns) 0 || eqb (2 * length ns) (length l.draws)) ≡ true)
      (λ e. or_right (eqb (length (map reward_told draws)) 0) _ (eq-eqb (2 * length (map reward_told draws)) (length l.draws) (omega (arith, draws_are, length-map draws reward_told)))) (λ e. refl)

  counts_fit : have_counts l ≡ true
  counts_fit = and_from _ _ (and_from _ _ (and_from _ _ (eq-eqb (length l.moves) (2 * state_count l) (omega (arith, moves_count forms, states_are)))
      (eq-eqb (length l.values) (state_count l) (values_count 0 forms ∙ sym states_are))) (eq-eqb (length l.draws % 2) 0 (omega (arith, draws_are)))) rewards_fit

  -- ---- cells
  abbrev at : ℕ → CellForm
  at place = get_or cells place (Follows (pos 0))

  abbrev first : ℕ → ℕ
  first place = before draws_of_form cells place

  cell_is : (place : ℕ) → place < length cells → table_cell l place ≡ number_told (first place) (at place)
  cell_is place here = cell_told 0 cells place here ∙ ap (λ (n : ℕ). number_told n (at place)) (omega arith)

  end_is : (place : ℕ) → place < length cells → end_at l place ≡ first place + length (draws_of_form (at place))
  end_is place here =
      later_ends_told limits 0 (draw_total l) cells (place + 1) cells_fine (omega (arith, total_is))
      ∙ omega (arith, ap (λ (k : ℕ). before draws_of_form cells k) (add-one place), before_more draws_of_form cells place (Follows (pos 0)) here)

  is_fine : (place : ℕ) → place < length cells → cell_in_range limits (at place) ≡ true
  is_fine place here = all_in (cell_in_range limits) cells (Follows (pos 0)) place cells_fine here

  cell_fits_at : (place : ℕ) → place < length l.cells → cell_fits l place ≡ true
  cell_fits_at place below =
      let here : place < length cells = omega (arith, cells_are) in
      let low : first_draw (table_cell l place) ≤ first place = rw (cell_is place here) (first_low limits (first place) (at place) (is_fine place here)) in
      le-leb (first_draw (table_cell l place)) (end_at l place) (omega (arith, low, end_is place here))

  draws_fit : do_draws_fit l ≡ true
  draws_fit = and_from _ _ (all_from (length l.cells) (cell_fits l) cell_fits_at)
      (eq-eqb (draws_end l.cells (draw_total l)) 0 (ends_told limits 0 (draw_total l) cells cells_fine (omega (arith, total_is))))

  pub nested_fits : do_fit l ≡ true
  nested_fits = and_from _ _ (and_from _ _ counts_fit states_fit) draws_fit

  -- ---- draws
  draws_are_at : (place : ℕ) → place < length cells → draws_at l place ≡ cell_draws (at place)
  draws_are_at place here =
      ap (λ (z : ℤ). count_of z (end_at l place)) (cell_is place here) ∙ count_told limits (first place) (end_at l place) (at place) (is_fine place here) (end_is place here)

  -- a draw of the cell at the place
  draw_is : (place d : ℕ) (more : List (List ℤ)) → place < length cells → at place ≡ Draws more → d < length more
      → (first place + d < length draws) × (get_or draws (first place + d) [] ≡ get_or more d [])
  draw_is place d more here e below =
      let same : draws_of_form (at place) ≡ more = ap draws_of_form e in
      let count : length (draws_of_form (at place)) ≡ length more = ap length same in (
        omega (arith, length-flat_map-take draws_of_form cells place (Follows (pos 0)) here, count),
        get_or-flat_map draws_of_form cells place d (Follows (pos 0)) [] here (omega (arith, count)) ∙ ap (λ (ds : List (List ℤ)). get_or ds d []) same,
      )

  number_at : (place d i : ℕ) (more : List (List ℤ)) → place < length cells → at place ≡ Draws more → d < length more → i < 2
      → count_in l.draws (2 * (first place + d) + i) ≡ count_in (get_or more d []) i
  number_at place d i more here e below few =
      let draw = draw_is place d more here e below in
      ap (λ (ns : List ℤ). count_in ns (2 * (first place + d) + i)) (draws_flat cells)
      ∙ draw_at draws (first place + d) i draw.0 few
      ∙ ap (λ (draw : List ℤ). count_in draw i) draw.1

  weight_of_draw : (place d : ℕ) (cell : CellForm) → place < length cells → at place ≡ cell → cell_in_range limits cell ≡ true → d < cell_draws cell
      → draw_weight l.draws (number_told (first place) cell) d ≡ cell_chance cell d
  weight_of_draw place d (Follows (pos state)) here e fine below = refl
  weight_of_draw place d (Follows (negsuc state)) here e fine below = absurd (cc)
  weight_of_draw place d (Draws more) here e fine below = number_at place d 1 more here e below (omega arith)

  state_of_draw : (place d : ℕ) (cell : CellForm) → place < length cells → at place ≡ cell → cell_in_range limits cell ≡ true → d < cell_draws cell
      → draw_state l.draws (number_told (first place) cell) d ≡ cell_follows cell d
  state_of_draw place d (Follows (pos state)) here e fine below = refl
  state_of_draw place d (Follows (negsuc state)) here e fine below = absurd (cc)
  state_of_draw place d (Draws more) here e fine below =
      ap (λ (n : ℕ). count_in l.draws n) (omega arith) ∙ number_at place d 0 more here e below (omega arith)

  reward_of_draw : (place d : ℕ) (cell : CellForm) → place < length cells → at place ≡ cell → cell_in_range limits cell ≡ true → d < cell_draws cell
      → draw_reward l.rewards (number_told (first place) cell) d ≡ cell_reward cell d
  reward_of_draw place d (Follows (pos state)) here e fine below = refl
  reward_of_draw place d (Follows (negsuc state)) here e fine below = absurd (cc)
  reward_of_draw place d (Draws more) here e fine below =
      let draw = draw_is place d more here e below in
      let n = first place + d in
      cond_both (has_paid_draw forms) (map reward_told draws) [] (λ (ns : List ℤ). get_or ns n (pos 0) ≡ reward_told (get_or more d []))
      (λ paid. get_or-map reward_told draws n [] (pos 0) draw.0 ∙ ap reward_told draw.1)
      (λ unpaid. sym (ap reward_told (sym draw.1) ∙ all_unpaid draws n unpaid draw.0))

  reward_is : (place d : ℕ) → place < length cells → d < cell_draws (at place) → table_reward l place d ≡ cell_reward (at place) d
  reward_is place d here below =
      ap (λ (z : ℤ). draw_reward l.rewards z d) (cell_is place here) ∙ reward_of_draw place d (at place) here refl (is_fine place here) below

  weight_is : (place d : ℕ) → place < length cells → d < cell_draws (at place) → table_weight l place d ≡ cell_chance (at place) d
  weight_is place d here below =
      ap (λ (z : ℤ). draw_weight l.draws z d) (cell_is place here) ∙ weight_of_draw place d (at place) here refl (is_fine place here) below

  state_is : (place d : ℕ) → place < length cells → d < cell_draws (at place) → table_state l place d ≡ cell_follows (at place) d
  state_is place d here below =
      ap (λ (z : ℤ). draw_state l.draws z d) (cell_is place here) ∙ state_of_draw place d (at place) here refl (is_fine place here) below

  -- ---- the cells of a state
  -- a cell, by its place among those of its state
  cell_of_state : (s k : ℕ) (rows : List (List CellForm)) → s < length forms → form_at forms s ≡ Rows rows → k < length (kept_cells (Rows rows))
      → (place_at l s k < length cells) × (at (place_at l s k) ≡ get_or (kept_cells (Rows rows)) k (Follows (pos 0)))
  cell_of_state s k rows here e below =
      let start = before kept_cells forms s in
      let kept = kept_cells (form_at forms s) in
      let within : k < length kept = omega (arith, below, ap (λ (form : StateForm). length (kept_cells form)) e) in
      let place : place_at l s k ≡ start + k = ap (λ (z : ℤ). unsigned_abs z + k) (value_is s here ∙ ap (value_told start) e) in (
        omega (arith, place, within, length-flat_map-take kept_cells forms s (End (pos 0)) here),
        ap at place ∙ get_or-flat_map kept_cells forms s k (End (pos 0)) (Follows (pos 0)) here within
            ∙ ap (λ (form : StateForm). get_or (kept_cells form) k (Follows (pos 0))) e,
      )

  -- ---- ranks
  abbrev ranks : List ℕ
  ranks = ranks_told 0 forms

  module _ (order : AreOrdered l) (s : ℕ) (rows : List (List CellForm)) (here : s < length forms) (e : form_at forms s ≡ Rows rows) where
    abbrev kept : List CellForm
    kept = kept_cells (Rows rows)

    abbrev rank_of : ℤ → ℕ
    rank_of z = rank_behind s (drop (suc s) ranks) z

    kept_are : cells_of l s ≡ length kept
    kept_are = cells_in_state s here ∙ ap (λ (form : StateForm). length (kept_cells form)) e

    cell_here : (k : ℕ) → k < length kept → (place_at l s k < length cells) × (at (place_at l s k) ≡ get_or kept k (Follows (pos 0)))
    cell_here k below = cell_of_state s k rows here e below

    draws_here : (k : ℕ) → k < length kept → draws_at l (place_at l s k) ≡ cell_draws (get_or kept k (Follows (pos 0)))
    draws_here k below = draws_are_at (place_at l s k) (cell_here k below).0 ∙ ap cell_draws (cell_here k below).1

    -- the rank of a state that a cell names
    named_rank : (k d : ℕ) → k < length kept → d < draws_at l (place_at l s k) → rank_of (named_at kept k d) ≡ table_rank l (table_state l (place_at l s k) d)
    named_rank k d below draw =
        let place = place_at l s k in
        let cell = cell_here k below in
        let count = draws_are_at place cell.0 in
        let next = table_state l place d in
        let state : next ≡ cell_follows (at place) d = state_is place d cell.0 (omega (arith, count, draw)) in
        let behind : s < next = leads_behind l s place d (keeps_all CellRule.Order l s k order (omega (arith, states_are)) (omega (arith, kept_are))) draw in
        let named : get_or (named_by (at place)) d (pos 0) ≡ pos next = named_is limits (at place) d (is_fine place cell.0) (omega (arith, count, draw)) ∙ ap pos (sym state) in
        ap (λ (c : CellForm). rank_of (get_or (named_by c) d (pos 0))) (sym cell.1) ∙ ap rank_of named ∙ behind_is s ranks next behind ∙ sym (counts_told ranks next)

    abbrev most : ℕ
    most = greatest_in (map rank_of (flat_map named_by kept))

    most_high : most ≤ next_rank l s
    most_high = greatest_named rank_of (next_rank l s) kept (λ k d below draw.
        let few : d < draws_at l (place_at l s k) = omega (arith, draw, draws_here k below, named_count (get_or kept k (Follows (pos 0)))) in
        omega (arith, named_rank k d below few, rank_no_higher l s k d (omega (arith, kept_are)) few))

    most_low : next_rank l s ≤ most
    most_low = greatest_high (cells_of l s) most (λ k. cell_rank l (place_at l s k)) (λ k below.
        let place = place_at l s k in
        let there : k < length kept = omega (arith, kept_are) in
        greatest_high (draws_at l place) most (λ d. table_rank l (table_state l place d)) (λ d draw. omega (
          arith,
          named_rank k d there draw,
          named_no_higher rank_of kept k d there (omega (arith, draw, draws_here k there, named_count (get_or kept k (Follows (pos 0))))),
        )))

    pub rank_longest : table_rank l s ≡ next_rank l s + 1
    rank_longest =
        let told : table_rank l s ≡ suc most =
        counts_told ranks s ∙ rank_in 0 forms s here ∙ ap (λ (n : ℕ). rank_told n (drop (suc s) ranks) (form_at forms s)) (omega arith) ∙ ap (rank_told s (drop (suc s) ranks)) e in
        omega (arith, told, most_high, most_low)

  -- ---- the game
  module _ (p : IsTable l) where
    columns_some : (s : ℕ) (rows : List (List CellForm)) → s < length forms → form_at forms s ≡ Rows rows → 1 ≤ columns_in rows
    columns_some s rows here e =
        let inner : 1 ≤ table_rank l s = subst (λ (form : StateForm). IsRanked form (table_rank l s)) e (rank_told_at forms s here) in
        let told : table_moves l Two s ≡ columns_in rows = two_is s here ∙ ap columns_of e in
        omega (arith, told, p.moves_low Two s (omega (arith, states_are)) inner)

    columns_first : (s : ℕ) (form : StateForm) → s < length forms → form_at forms s ≡ form → columns_of form ≡ form_moves Two form
    columns_first s (End payoff) here e = refl
    columns_first s (Rows rows) here e = sym (first_row rows (columns_some s rows here e))

    -- the cell of two moves, and that it is there
    cell_of_moves : (s a b : ℕ) (form : StateForm) → s < length forms → form_at forms s ≡ form → a < form_moves One form → b < form_moves Two form
        → (place_of l s a b < length cells) × (at (place_of l s a b) ≡ form_cell form a b)
    cell_of_moves s a b (End payoff) here e one two = absurd (omega arith)
    cell_of_moves s a b (Rows rows) here e one two =
        let columns = columns_in rows in
        let some = columns_some s rows here e in
        let low : b < columns = omega (arith, first_row rows some) in
        let told : table_moves l Two s ≡ columns = two_is s here ∙ ap columns_of e in
        let place : place_of l s a b ≡ place_at l s (a * columns + b) = ap (λ (n : ℕ). place_at l s (a * n + b)) told in
        let within : a * columns + b < length (kept_cells (Rows rows)) = omega (arith, kept_count (Rows rows), pair_below a b (length rows) columns one low) in
        let cell = cell_of_state s (a * columns + b) rows here e within in
        (omega (arith, place, cell.0), ap at place ∙ cell.1 ∙ kept_cell rows a b some one low)

    module _ (s : State) (a b : ℕ) (m : HaveMoves forms s a b) where
      abbrev cell : CellForm
      cell = form_cell (form_at forms s.number) a b

      there : (place_of l s.number a b < length cells) × (at (place_of l s.number a b) ≡ cell)
      there = cell_of_moves s.number a b (form_at forms s.number) m.here refl m.one m.two

      same_draws : draws_at l (place_of l s.number a b) ≡ cell_draws cell
      same_draws = draws_are_at (place_of l s.number a b) there.0 ∙ ap cell_draws there.1

      same_chance : (d : ℕ) → d < cell_draws cell → table_weight l (place_of l s.number a b) d ≡ cell_chance cell d
      same_chance d below =
          weight_is (place_of l s.number a b) d there.0 (omega (arith, ap cell_draws there.1)) ∙ ap (λ (c : CellForm). cell_chance c d) there.1

      same_state : (d : ℕ) → d < cell_draws cell → table_state l (place_of l s.number a b) d ≡ cell_follows cell d
      same_state d below =
          state_is (place_of l s.number a b) d there.0 (omega (arith, ap cell_draws there.1)) ∙ ap (λ (c : CellForm). cell_follows c d) there.1

      same_reward : (d : ℕ) → d < cell_draws cell → table_reward l (place_of l s.number a b) d ≡ cell_reward cell d
      same_reward d below =
          reward_is (place_of l s.number a b) d there.0 (omega (arith, ap cell_draws there.1)) ∙ ap (λ (c : CellForm). cell_reward c d) there.1

    same_moves : (side : Side) (s : ℕ) → s < length forms → table_moves l side s ≡ form_moves side (form_at forms s)
    same_moves One s here = one_is s here
    same_moves Two s here = two_is s here ∙ columns_first s (form_at forms s) here refl

    -- ---- the range of payoffs
    end_value : (s : ℕ) (payoff : ℤ) → s < length forms → form_at forms s ≡ End payoff → (table_rank l s ≡ 0) × (table_value l s ≡ payoff)
    end_value s payoff here e = (
      subst (λ (form : StateForm). IsRanked form (table_rank l s)) e (rank_told_at forms s here),
      value_is s here ∙ ap (value_told (before kept_cells forms s)) e,
    )

    end_told : (s : ℕ) (form : StateForm) → s < length forms → form_at forms s ≡ form → table_rank l s ≡ 0 → form ≡ End (table_value l s)
    end_told s (End payoff) here e rank = ap End (sym (end_value s payoff here e).1)
    end_told s (Rows rows) here e rank = absurd (omega (arith, subst (λ (form : StateForm). IsRanked form (table_rank l s)) e (rank_told_at forms s here)))

    paid_told : (payoff : ℤ) → IsPaid l (state_count l) payoff → (s : ℕ) × (s < length forms) × (form_at forms s ≡ End payoff)
    paid_told payoff paid =
        let here : paid.0 < length forms = omega (arith, paid.1, states_are) in
        (paid.0, here, end_told paid.0 (form_at forms paid.0) here refl paid.2 ∙ ap End paid.3)

    -- the last state is an end
    last_paid : (payoff : ℤ) → ((s : ℕ) → s < state_count l → table_rank l s ≡ 0 → table_value l s ≡ payoff) → IsPaid l (state_count l) payoff
    last_paid payoff h =
        let s = state_count l - 1 in
        let here : s < state_count l = omega (arith, p.some) in
        let rank = last_is_end l p s (omega (arith, p.some)) in
        (s, here, rank, h s here rank)

    low_paid : IsPaid l (state_count l) (worst_payoff l One)
    low_paid = elim (least_found l (state_count l)) [
      | inl none ↦ last_paid (worst_payoff l One) (λ s here rank. omega (arith, ints, none, p.payoff_high s here rank, least_at l (state_count l) s here rank))
      | inr found ↦ found
    ]

    high_paid : IsPaid l (state_count l) (worst_payoff l Two)
    high_paid = elim (greatest_found l (state_count l)) [
      | inl none ↦ last_paid (worst_payoff l Two) (λ s here rank. omega (arith, ints, none, p.payoff_low s here rank, payoff_at l (state_count l) s here rank))
      | inr found ↦ found
    ]

    worst_told : (side : Side) (s : State) → worst_sum (table_game l) side s ≡ table_bound l side s.number
    worst_told One s = refl
    worst_told Two s = refl

    range_told : (side : Side) → range_sum (table_game l) side ≡ table_range l side
    range_told One = refl
    range_told Two = refl

    -- ---- no draw has a reward
    module _ (unpaid : has_paid_draw forms ≡ false) where
      none_pays : has_rewards l ≡ false
      none_pays = ap (λ (ns : List ℤ). not (eqb (length ns) 0)) (cond-false (has_paid_draw forms) (map reward_told draws) [] unpaid)

      range_is : (side : Side) → table_range l side ≡ worst_payoff l side
      range_is side = cond-false (has_rewards l) (worst_upto side (state_count l - 1) (state_total l side)) (worst_payoff l side) none_pays

      bound_same : (side : Side) (s : ℕ) → table_bound l side s ≡ table_range l side
      bound_same side s = cond-false (has_rewards l) (state_total l side s) (worst_payoff l side) none_pays ∙ sym (range_is side)

      is_unpaid : IsUnpaid forms (table_game l)
      is_unpaid = record {
        low_least = λ s payoff here e.
            let paid = end_value s payoff here e in
            omega (arith, ints, range_is One, least_at l (state_count l) s (omega (arith, here, states_are)) paid.0, paid.1);
        low_there = paid_told (table_range l One) (subst (IsPaid l (state_count l)) (sym (range_is One)) low_paid);
        high_most = λ s payoff here e.
            let paid = end_value s payoff here e in
            omega (arith, ints, range_is Two, payoff_at l (state_count l) s (omega (arith, here, states_are)) paid.0, paid.1);
        high_there = paid_told (table_range l Two) (subst (IsPaid l (state_count l)) (sym (range_is Two)) high_paid);
        least = λ s. bound_same One s.number;
        most = λ s. bound_same Two s.number;
      }

    -- ---- some draw has a reward
    -- the sum of a turn of the form is that of the turn
    sum_told : (side : Side) (s : State) (a b d : ℕ) → IsFormTurn forms s a b d
        → turn_total l (table_bound l side) (place_of l s.number a b) d ≡ form_sum forms (table_game l) side s a b d
    sum_told side s a b d turn =
        let place = place_of l s.number a b in
        let cell = form_cell (form_at forms s.number) a b in
        let next : State = record { number = cell_follows cell d } in
        ap (λ (r : ℤ). r +ℤ table_bound l side (table_state l place d)) (same_reward s a b turn.moves d turn.draw)
        ∙ ap (λ (c : ℕ). cell_reward cell d +ℤ table_bound l side c) (same_state s a b turn.moves d turn.draw)
        ∙ ap (λ (x : ℤ). cell_reward cell d +ℤ x) (sym (worst_told side next))

    rank_of_rows : (s : ℕ) (rows : List (List CellForm)) → s < length forms → form_at forms s ≡ Rows rows → 1 ≤ table_rank l s
    rank_of_rows s rows here e = subst (λ (form : StateForm). IsRanked form (table_rank l s)) e (rank_told_at forms s here)

    holds_at : (side : Side) (s : State) (a b d : ℕ) → IsFormTurn forms s a b d → IsNoTighter side (worst_sum (table_game l) side s) (form_sum forms (table_game l) side s a b d)
    holds_at side s a b d turn =
        let moves = turn.moves in
        let n = s.number in
        let here : n < state_count l = omega (arith, states_are, moves.here) in
        let one : a < table_moves l One n = omega (arith, same_moves One n moves.here, moves.one) in
        let two : b < table_moves l Two n = omega (arith, same_moves Two n moves.here, moves.two) in
        let draw : d < draws_at l (place_of l n a b) = omega (arith, same_draws s a b moves, turn.draw) in
        looser_left side _ _ _ (sym (worst_told side s)) (looser_right side _ _ _ (sum_told side s a b d turn)
        (bound_turn l p side n (a * table_moves l Two n + b) d here (is_inner l p One n a here one) (pair_below a b (table_moves l One n) (table_moves l Two n) one two) draw))

    module _ (paid : has_paid_draw forms ≡ true) where
      some_pays : has_rewards l ≡ true
      some_pays = ap (λ (ns : List ℤ). not (eqb (length ns) 0)) (cond-true (has_paid_draw forms) (map reward_told draws) [] paid) ∙ some_paid draws paid

      sum_from : (side : Side) (s : State) (a b d : ℕ) → IsFormTurn forms s a b d → table_bound l side s.number ≡ turn_total l (table_bound l side) (place_of l s.number a b) d
          → worst_sum (table_game l) side s ≡ form_sum forms (table_game l) side s a b d
      sum_from side s a b d turn e = worst_told side s ∙ e ∙ sum_told side s a b d turn

      there_at : (side : Side) (s : State) (rows : List (List CellForm)) → s.number < length forms → form_at forms s.number ≡ Rows rows
          → (a : ℕ) × (b : ℕ) × (d : ℕ) × IsFormTurn forms s a b d × (worst_sum (table_game l) side s ≡ form_sum forms (table_game l) side s a b d)
      there_at side s rows here e =
          let inner = rank_of_rows s.number rows here e in
          let below : s.number < state_count l = omega (arith, states_are, here) in
          let found = bound_found l p side s.number below inner some_pays in
          let turn = turn_of_cell l p (λ place d. table_bound l side s.number ≡ turn_total l (table_bound l side) place d) s found.0 found.1 below inner found.2 found.3 found.4 in
          let t = turn.0 in
          let moves : HaveMoves forms s t.one t.two = record {
            here = here;
            one = omega (arith, same_moves One s.number here, turn.1.one_below);
            two = omega (arith, same_moves Two s.number here, turn.1.two_below);
          } in
          let told : IsFormTurn forms s t.one t.two t.draw = record { moves = moves; draw = omega (arith, same_draws s t.one t.two moves, turn.1.draw_below) } in
          (t.one, t.two, t.draw, told, sum_from side s t.one t.two t.draw told turn.2)

      range_found : (side : Side) → (s : State) × (s.number < length forms) × (range_sum (table_game l) side ≡ worst_sum (table_game l) side s)
      range_found side =
          let found = worst_found side (state_count l - 1) (state_total l side) in
          let s : State = record { number = found.0 } in (
            s,
            omega (arith, states_are, p.some, found.1),
            range_told side ∙ cond-true (has_rewards l) (worst_upto side (state_count l - 1) (state_total l side)) (worst_payoff l side) some_pays
                ∙ found.2 ∙ sym (cond-true (has_rewards l) (state_total l side found.0) (worst_payoff l side) some_pays) ∙ sym (worst_told side s),
          )

      is_paid : (side : Side) → IsPaidFor forms (table_game l) side
      is_paid side = record {
        at_end = λ s payoff here e.
            let ended = end_value s.number payoff here e in
            worst_told side s ∙ bound_at_end l p side s.number some_pays ended.0 ∙ ended.1;
        no_worse = holds_at side;
        as_bad = there_at side;
        range_holds = λ s here. looser_left side _ _ _ (sym (range_told side)) (looser_right side _ _ _ (sym (worst_told side s)) (range_state l p side s.number (omega (arith, here, states_are))));
        range_there = range_found side;
      }

    -- ---- the width, and whether there is chance
    width_told : (table_width l ≡ 1) ⊎ ((side : Side) × (s : ℕ) × (s < length forms) × (form_moves side (form_at forms s) ≡ table_width l))
    width_told = elim (width_found l p) [
      | inl one ↦ inl one
      | inr found ↦
          let here : found.1 < length forms = omega (arith, found.2, states_are) in
          inr (found.0, found.1, here, omega (arith, same_moves found.0 found.1 here, found.3))
    ]

    one_draw : is_chance_free l ≡ true → HaveOneDraw forms
    one_draw free s a b m =
        let place = place_of l s.number a b in
        let below : place < length l.cells = omega (arith, (there s a b m).0, cells_are) in
        sym (same_draws s a b m) ∙ eqb-true (draws_at l place) 1 (all_at (length l.cells) (λ place. eqb (draws_at l place) 1) place free below)

    no_chance : HaveOneDraw forms → is_chance_free l ≡ true
    no_chance one = all_from (length l.cells) (λ place. eqb (draws_at l place) 1) (λ place below.
        let found = cell_found l p place below in
        let s : State = record { number = found.0 } in
        let here : found.0 < length forms = omega (arith, found.3, states_are) in
        let m : HaveMoves forms s found.1 found.2 = record {
          here = here;
          one = omega (arith, same_moves One found.0 here, found.4);
          two = omega (arith, same_moves Two found.0 here, found.5);
        } in
        eq-eqb (draws_at l place) 1 (ap (draws_at l) (sym found.6) ∙ same_draws s found.1 found.2 m ∙ one s found.1 found.2 m))

    pub nested_game : IsNestedGame forms (table_game l)
    nested_game = record {
      root = refl;
      key = λ s. refl;
      label = λ side s i. refl;
      moves = λ side s here. same_moves side s.number here;
      draws = same_draws;
      chance = λ s a b d m below. same_chance s a b m d below;
      drawn = λ s a b d m below. (let e = same_state s a b m d below in λ i. record { number = e i });
      ends = λ s payoff here e. end_value s.number payoff here e;
      inner = λ s rows here e. rank_of_rows s.number rows here e;
      reward = λ s a b d m below. same_reward s a b m d below;
      unpaid = is_unpaid;
      paid = is_paid;
      width_most = λ side s here. omega (arith, same_moves side s here, moves_width l p side s (omega (arith, here, states_are)));
      width_there = width_told;
      chance_free_is = (one_draw, no_chance);
    }

-- ---- ranks that are refused
first_there : {T : Type 0} (n : ℕ) (f : ℕ → Option T) (x : T) → first_below n f ≡ Some x → (k : ℕ) × (k < n) × (f k ≡ Some x)
first_there zero f x h = absurd (cc)
first_there (suc n) f x h = elim (or_there (first_below n f) (f n) x h) [
  | inl earlier ↦ let k = first_there n f x earlier in (k.0, omega (arith, k.1), k.2)
  | inr last ↦ (n, omega arith, last)
]

turns_told : (b : Bool) (s : ℕ) (fault : TableError) → cond b None (Some (errors.Turns s)) ≡ Some fault → (b ≡ false) × (fault ≡ errors.Turns s)
turns_told true s fault h = absurd (cc)
turns_told false s fault h = (refl, cc)

module _ (limits : Limits) (forms : List StateForm) (fine : list_all (state_in_range limits) forms ≡ true) (order : AreOrdered (lists_of_states forms)) where
  abbrev lists : Lists
  lists = lists_of_states forms

  longest_of : (s : ℕ) (form : StateForm) → s < length forms → form_at forms s ≡ form → 1 ≤ table_rank lists s → table_rank lists s ≡ next_rank lists s + 1
  longest_of s (End payoff) here e inner = absurd (omega (arith, subst (λ (form : StateForm). IsRanked form (table_rank lists s)) e (rank_told_at forms s here)))
  longest_of s (Rows rows) here e inner = rank_longest limits forms fine order s rows here e

  is_rank_told : (most : Limits) (s : ℕ) → s < length forms → table_rank lists s ≤ most_table_turns most → is_rank most lists s ≡ true
  is_rank_told most s here few = and_from _ _ (le-leb (table_rank lists s) (most_table_turns most) few) (elim (cases_lt 0 (table_rank lists s)) [
    | inl more ↦ or_right (eqb (table_rank lists s) 0) _ (eq-eqb (table_rank lists s) (next_rank lists s + 1) (longest_of s (form_at forms s) here refl (omega arith)))
    | inr none ↦ or_left (eqb (table_rank lists s) 0) _ (eq-eqb (table_rank lists s) 0 (omega arith))
  ])

  too_many_turns : (most : Limits) (fault : TableError) → rule_fault (Rule.Turns most) lists ≡ Some fault → (s : ℕ) × (fault ≡ errors.Turns s) × (most_table_turns most < table_rank lists s)
  too_many_turns most fault h =
      let found = first_there (state_count lists) (fault_at (Rule.Turns most) lists) fault h in
      let told = turns_told (is_rank most lists found.0) found.0 fault found.2 in (
        found.0,
        told.1,
        elim (cases_lt (most_table_turns most) (table_rank lists found.0)) [
          | inl more ↦ more
          | inr few ↦ absurd (both_ways (is_rank most lists found.0) told.0 (is_rank_told most found.0 (omega (arith, found.1, ranks_count forms)) few))
        ],
      )

  pub ways_told : HaveLongestWays lists
  ways_told = record {
    longest = λ s here inner. longest_of s (form_at forms s) (omega (arith, here, ranks_count forms)) refl inner;
    refused = too_many_turns;
  }

-- ---- all forms in range
states_in_range : (limits : Limits) (forms : List StateForm) → are_in_range limits forms ≡ true → list_all (state_in_range limits) forms ≡ true
states_in_range limits forms h = (and_parts (list_all (state_in_range limits) forms) _ h).0

pub forms_fit : (limits : Limits) (forms : List StateForm) → are_in_range limits forms ≡ true → do_fit (lists_of_states forms) ≡ true
forms_fit limits forms h = nested_fits limits forms (states_in_range limits forms h)

pub forms_tell_game : (limits : Limits) (forms : List StateForm) → are_in_range limits forms ≡ true → first_fault limits (lists_of_states forms) ≡ None
    → IsNestedGame forms (table_game (lists_of_states forms))
forms_tell_game limits forms h none =
    let short = forms_in_range limits forms h in
    let shaped = (or_none (shape_fault limits (lists_of_states forms)) _ none).0 in
    nested_game limits forms (states_in_range limits forms h) (table_of limits (lists_of_states forms) shaped (omega (arith, short.ranks.few)) (omega (arith, short.draws.few)))

pub forms_have_longest_ways : (limits : Limits) (forms : List StateForm) → are_in_range limits forms ≡ true → AreOrdered (lists_of_states forms) → HaveLongestWays (lists_of_states forms)
forms_have_longest_ways limits forms h order = ways_told limits forms (states_in_range limits forms h) order
