-- The lists of forms in range are in range.
use Rattle.std.proofs.Common.{◌≡◌, ℕ, zero, suc, ◌+◌, ◌-◌, ◌<◌, ◌≤◌, ℤ, pos, negsuc, neg_ℤ, ◌≤ℤ◌, Bool, true, ◌&&◌, eqb, leb, ltb, List, [], ◌∷◌, length, map, get_or, All, refl, ap, sym, ◌∙◌, arith}
use Rattle.std.proofs.lemmas.Bool.{and_from, and_parts, cond_both, leb-true, ltb-true}
use Rattle.std.proofs.lemmas.Int.{ints}
use Rattle.std.proofs.lemmas.List.{get_or-map, length-append, length-map}
use Rattle.std.proofs.lemmas.List.Concat.{length-flat_map}
use Rattle.std.proofs.lemmas.List.Sums.{sum-map}
use Rattle.std.proofs.lemmas.Grind.{flat_map-append}
use Rattle.std.specs.List.{flat_map, list_all}
use Rattle.sim_game.specs.declared.Limits.{Limits}
use Rattle.sim_game.specs.declared.Limits.TheVariants.{Narrow, Wide}
use Rattle.table.specs.declared.nested.TheConstants.{MOST_STATES}
use Rattle.table.specs.Nested.{CellForm, Follows, Draws, StateForm, End, Rows, are_in_range, cell_in_range, cells_told, columns_in, draw_count_of, draw_in_range, draw_told, draws_of_form, draws_told, given_cells, greatest_in, has_paid_draw, is_reward, is_within, kept_cells, lists_of_states, moves_told, named_by, names_state, rank_behind, ranks_told, reward_told, rewards_told, row_in_range, state_in_range, values_told}
use Rattle.table.specs.Ranges.{AreListsInRange}
use Rattle.table.proofs.FormLemmas.{all_flat, all_in, before_all, before_even, cells_count, cells_in_range, draw_parts, draws_flat, draws_in_range, moves_count, ranks_count, values_count}

-- ---- numbers
within_from : (low high z : ℤ) → low ≤ℤ z → z ≤ℤ high → is_within low high z ≡ true
within_from low high z h h' = grind (arith, ints)

pub within_parts : (low high z : ℤ) → is_within low high z ≡ true → (low ≤ℤ z) × (z ≤ℤ high)
within_parts low high z h = (grind (arith, ints), grind (arith, ints))

all_within : (low high : ℤ) (ns : List ℤ) → list_all (is_within low high) ns ≡ true → All (λ z. (low ≤ℤ z) × (z ≤ℤ high)) ns
all_within low high ns h = λ k d below. within_parts low high (get_or ns k d) (all_in (is_within low high) ns d k h below)

-- ---- counts
draws_counted : (cells : List CellForm) → draw_count_of cells ≡ length (flat_map draws_of_form cells)
draws_counted cells = sum-map (λ (cell : CellForm). length (draws_of_form cell)) cells ∙ sym (length-flat_map draws_of_form cells)

-- what is kept is none, or all that is given
kept_or_none : (P : List CellForm → Type 0) (form : StateForm) → P [] → P (given_cells form) → P (kept_cells form)
kept_or_none P (End payoff) none all = none
kept_or_none P (Rows rows) none all = cond_both (eqb (columns_in rows) 0) [] (flat_map (λ (row : List CellForm). row) rows) P (λ e. none) (λ e. all)

cells_fewer : (forms : List StateForm) → length (flat_map kept_cells forms) ≤ length (flat_map given_cells forms)
cells_fewer [] = omega arith
cells_fewer (form ∷ forms) =
    let here = kept_or_none (λ (cells : List CellForm). length cells ≤ length (given_cells form)) form (omega arith) (omega arith) in
    omega (arith, here, cells_fewer forms, length-append (kept_cells form) (flat_map kept_cells forms), length-append (given_cells form) (flat_map given_cells forms))

draws_fewer : (forms : List StateForm) → length (flat_map draws_of_form (flat_map kept_cells forms)) ≤ length (flat_map draws_of_form (flat_map given_cells forms))
draws_fewer [] = omega arith
draws_fewer (form ∷ forms) =
    let kept = kept_cells form in
    let given = given_cells form in
    let here = kept_or_none (λ (cells : List CellForm). length (flat_map draws_of_form cells) ≤ length (flat_map draws_of_form given)) form (omega arith) (omega arith) in
    omega (
      arith,
      here,
      draws_fewer forms,
      ap length (flat_map-append draws_of_form kept (flat_map kept_cells forms)),
      length-append (flat_map draws_of_form kept) (flat_map draws_of_form (flat_map kept_cells forms)),
      ap length (flat_map-append draws_of_form given (flat_map given_cells forms)),
      length-append (flat_map draws_of_form given) (flat_map draws_of_form (flat_map given_cells forms)),
    )

-- ---- ranks
behind_high : (s m : ℕ) (behind : List ℕ) → ((k : ℕ) → get_or behind k 0 ≤ m) → (z : ℤ) → rank_behind s behind z ≤ m
behind_high s m behind h (negsuc n) = omega arith
behind_high s m behind h (pos n) = cond_both (leb n s) 0 (get_or behind (n - suc s) 0) (λ (rank : ℕ). rank ≤ m) (λ e. omega arith) (λ e. h (n - suc s))

greatest_high : (m : ℕ) (f : ℤ → ℕ) → ((z : ℤ) → f z ≤ m) → (zs : List ℤ) → greatest_in (map f zs) ≤ m
greatest_high m f h [] = omega arith
greatest_high m f h (z ∷ zs) = omega (arith, h z, greatest_high m f h zs)

ranks_high : (s : ℕ) (forms : List StateForm) (k : ℕ) → get_or (ranks_told s forms) k 0 ≤ length forms
ranks_high s [] k = omega arith
ranks_high s (End payoff ∷ forms) zero = omega arith
ranks_high s (Rows rows ∷ forms) zero =
    let behind = ranks_told (suc s) forms in
    omega (arith, greatest_high (length forms) (rank_behind s behind) (behind_high s (length forms) behind (ranks_high (suc s) forms)) (flat_map named_by (kept_cells (Rows rows))))
ranks_high s (form ∷ forms) (suc k) = omega (arith, ranks_high (suc s) forms k)

ranks_within : (forms : List StateForm) → length forms ≤ 16777216 → All (λ z. (pos 0 ≤ℤ z) × (z ≤ℤ pos 16777216)) (map pos (ranks_told 0 forms))
ranks_within forms few = λ k d below.
    let rank = get_or (ranks_told 0 forms) k 0 in
    let same : get_or (map pos (ranks_told 0 forms)) k d ≡ pos rank = get_or-map pos (ranks_told 0 forms) k 0 d (omega (arith, below, length-map (ranks_told 0 forms) pos)) in
    (omega (arith, ints, same), omega (arith, ints, same, ranks_high 0 forms k))

-- ---- moves
columns_few : (limits : Limits) (rows : List (List CellForm)) → list_all (row_in_range limits) rows ≡ true → columns_in rows ≤ 255
columns_few limits [] h = omega arith
columns_few limits (row ∷ rows) h =
    let first = and_parts (leb (length row) 255) (list_all (cell_in_range limits) row) (and_parts (row_in_range limits row) (list_all (row_in_range limits) rows) h).0 in
    cond_both (list_all (λ (other : List CellForm). eqb (length other) (length row)) rows) (length row) 0 (λ (n : ℕ). n ≤ 255) (λ e. leb-true (length row) 255 first.0) (λ e. omega arith)

moves_within : (limits : Limits) (form : StateForm) → state_in_range limits form ≡ true → list_all (is_within (pos 0) (pos 255)) (moves_told form) ≡ true
moves_within limits (End payoff) h = refl
moves_within limits (Rows rows) h =
    let both = and_parts (leb (length rows) 255) (list_all (row_in_range limits) rows) h in
    let one = leb-true (length rows) 255 both.0 in
    let two = columns_few limits rows both.1 in
    and_from _ _ (within_from (pos 0) (pos 255) (pos (length rows)) (omega (arith, ints)) (omega (arith, ints, one)))
    (and_from _ _ (within_from (pos 0) (pos 255) (pos (columns_in rows)) (omega (arith, ints)) (omega (arith, ints, two))) refl)

-- ---- values
values_within : (limits : Limits) (cells : ℕ) (forms : List StateForm) → list_all (state_in_range limits) forms ≡ true → cells + length (flat_map kept_cells forms) ≤ 16777216
    → list_all (is_within (neg_ℤ (pos 1000000)) (pos 16777216)) (values_told cells forms) ≡ true
values_within limits cells [] h few = refl
values_within limits cells (End payoff ∷ forms) h few =
    let both = and_parts (state_in_range limits (End payoff)) (list_all (state_in_range limits) forms) h in
    let paid = within_parts (neg_ℤ (pos 1000000)) (pos 1000000) payoff both.0 in
    and_from _ _ (within_from (neg_ℤ (pos 1000000)) (pos 16777216) payoff paid.0 (omega (arith, ints, paid.1))) (values_within limits cells forms both.1 few)
values_within limits cells (Rows rows ∷ forms) h few =
    let both = and_parts (state_in_range limits (Rows rows)) (list_all (state_in_range limits) forms) h in
    let kept = kept_cells (Rows rows) in
    let count = length-append kept (flat_map kept_cells forms) in
    and_from _ _ (within_from (neg_ℤ (pos 1000000)) (pos 16777216) (pos cells) (omega (arith, ints)) (omega (arith, ints, few)))
    (values_within limits (cells + length kept) forms both.1 (omega (arith, few, count)))

-- ---- cells and draws
named_within : (limits : Limits) (z : ℤ) → names_state limits z ≡ true → (pos 0 ≤ℤ z) × (z ≤ℤ pos 16777215)
named_within Narrow z h = let both = within_parts (pos 0) (pos 1048575) z h in (both.0, omega (arith, ints, both.1))
named_within Wide z h = within_parts (pos 0) (pos 16777215) z h

cells_within : (limits : Limits) (first : ℕ) (cells : List CellForm) → list_all (cell_in_range limits) cells ≡ true → first + length (flat_map draws_of_form cells) ≤ 16777215
    → list_all (is_within (neg_ℤ (pos 16777216)) (pos 16777215)) (cells_told first cells) ≡ true
cells_within limits first [] h few = refl
cells_within limits first (Follows state ∷ cells) h few =
    let both = and_parts (names_state limits state) (list_all (cell_in_range limits) cells) h in
    let here = named_within limits state both.0 in
    and_from _ _ (within_from (neg_ℤ (pos 16777216)) (pos 16777215) state (omega (arith, ints, here.0)) here.1) (cells_within limits first cells both.1 few)
cells_within limits first (Draws draws ∷ cells) h few =
    let both = and_parts (cell_in_range limits (Draws draws)) (list_all (cell_in_range limits) cells) h in
    let count = length-append draws (flat_map draws_of_form cells) in
    and_from _ _ (within_from (neg_ℤ (pos 16777216)) (pos 16777215) (negsuc first) (omega (arith, ints, few)) (omega (arith, ints)))
    (cells_within limits (first + length draws) cells both.1 (omega (arith, few, count)))

abbrev is_number : ℤ → Bool
is_number z = is_within (pos 0) (pos 16777215) z

number_from : (limits : Limits) (z : ℤ) → names_state limits z ≡ true → is_number z ≡ true
number_from limits z h = let both = named_within limits z h in within_from (pos 0) (pos 16777215) z both.0 both.1

-- ---- in range within the wide limits
more_pass : {T : Type 0} (test other : T → Bool) → ((x : T) → test x ≡ true → other x ≡ true) → (xs : List T) → list_all test xs ≡ true → list_all other xs ≡ true
more_pass test other h [] e = refl
more_pass test other h (x ∷ xs) e = let both = and_parts (test x) (list_all test xs) e in and_from _ _ (h x both.0) (more_pass test other h xs both.1)

draw_wider : (limits : Limits) (draw : List ℤ) → draw_in_range limits draw ≡ true → draw_in_range Wide draw ≡ true
draw_wider limits draw h =
    let count = (and_parts (leb 2 (length draw) && leb (length draw) 3) _ h).0 in
    let parts = draw_parts limits draw h in
    and_from _ _ count (and_from _ _ (and_from _ _ (number_from limits (get_or draw 0 (pos 0)) parts.0) (number_from limits (get_or draw 1 (pos 0)) parts.1)) parts.2)

cell_wider : (limits : Limits) (cell : CellForm) → cell_in_range limits cell ≡ true → cell_in_range Wide cell ≡ true
cell_wider limits (Follows state) h = number_from limits state h
cell_wider limits (Draws draws) h =
    let both = and_parts (leb (length draws) 255) (list_all (draw_in_range limits) draws) h in
    and_from _ _ both.0 (more_pass (draw_in_range limits) (draw_in_range Wide) (draw_wider limits) draws both.1)

row_wider : (limits : Limits) (row : List CellForm) → row_in_range limits row ≡ true → row_in_range Wide row ≡ true
row_wider limits row h =
    let both = and_parts (leb (length row) 255) (list_all (cell_in_range limits) row) h in
    and_from _ _ both.0 (more_pass (cell_in_range limits) (cell_in_range Wide) (cell_wider limits) row both.1)

state_wider : (limits : Limits) (form : StateForm) → state_in_range limits form ≡ true → state_in_range Wide form ≡ true
state_wider limits (End payoff) h = h
state_wider limits (Rows rows) h =
    let both = and_parts (leb (length rows) 255) (list_all (row_in_range limits) rows) h in
    and_from _ _ both.0 (more_pass (row_in_range limits) (row_in_range Wide) (row_wider limits) rows both.1)

pub forms_wider : (limits : Limits) (forms : List StateForm) → are_in_range limits forms ≡ true → are_in_range Wide forms ≡ true
forms_wider limits forms h =
    let both = and_parts (list_all (state_in_range limits) forms) _ h in
    and_from _ _ (more_pass (state_in_range limits) (state_in_range Wide) (state_wider limits) forms both.0) both.1

-- ---- draws
draw_within : (limits : Limits) (draw : List ℤ) → draw_in_range limits draw ≡ true → list_all is_number (draw_told draw) ≡ true
draw_within limits draw h =
    let parts = draw_parts limits draw h in
    and_from _ _ (number_from limits (get_or draw 0 (pos 0)) parts.0) (and_from _ _ (number_from limits (get_or draw 1 (pos 0)) parts.1) refl)

rewards_within : (limits : Limits) (draws : List (List ℤ)) → list_all (draw_in_range limits) draws ≡ true → list_all is_reward (map reward_told draws) ≡ true
rewards_within limits [] h = refl
rewards_within limits (draw ∷ draws) h =
    let both = and_parts (draw_in_range limits draw) (list_all (draw_in_range limits) draws) h in
    and_from (is_reward (reward_told draw)) _ (draw_parts limits draw both.0).2 (rewards_within limits draws both.1)

module _ (limits : Limits) (forms : List StateForm) (fine : list_all (state_in_range limits) forms ≡ true) (few : length forms ≤ MOST_STATES)
    (few_cells : length (flat_map given_cells forms) ≤ MOST_STATES) (few_draws : draw_count_of (flat_map given_cells forms) < MOST_STATES) where
  abbrev cells : List CellForm
  cells = flat_map kept_cells forms

  abbrev draws : List (List ℤ)
  draws = flat_map draws_of_form cells

  cells_fine : list_all (cell_in_range limits) cells ≡ true
  cells_fine = cells_in_range limits forms fine

  draws_fine : list_all (draw_in_range limits) draws ≡ true
  draws_fine = draws_in_range limits cells cells_fine

  cells_few : length cells ≤ MOST_STATES
  cells_few = omega (arith, few_cells, cells_fewer forms)

  draws_few : length draws < MOST_STATES
  draws_few = omega (arith, few_draws, draws_fewer forms, draws_counted (flat_map given_cells forms))

  pub lists_in_range : AreListsInRange (lists_of_states forms)
  lists_in_range = record {
    ranks = record { few = omega (arith, ranks_count forms, few); each = ranks_within forms few };
    moves = record {
      few = omega (arith, moves_count forms, few);
      each = all_within (pos 0) (pos 255) (flat_map moves_told forms) (all_flat (state_in_range limits) (is_within (pos 0) (pos 255)) moves_told (moves_within limits) forms fine);
    };
    values = record {
      few = omega (arith, values_count 0 forms, few);
      each = all_within (neg_ℤ (pos 1000000)) (pos 16777216) (values_told 0 forms) (values_within limits 0 forms fine (omega (arith, cells_few)));
    };
    cells = record {
      few = omega (arith, cells_count 0 cells, cells_few);
      each = all_within (neg_ℤ (pos 16777216)) (pos 16777215) (cells_told 0 cells) (cells_within limits 0 cells cells_fine (omega (arith, draws_few)));
    };
    draws = record {
      few = omega (
        arith,
        ap length (draws_flat cells),
        before_all draw_told draws,
        before_even draw_told draws [] 2 (λ k h. refl) (length draws) (omega arith),
        draws_few,
      );
      each = all_within (pos 0) (pos 16777215) (flat_map draws_told cells)
          (ap (list_all is_number) (draws_flat cells) ∙ all_flat (draw_in_range limits) is_number draw_told (draw_within limits) draws draws_fine);
    };
    rewards = record {
      few = cond_both (has_paid_draw forms) (map reward_told draws) [] (λ (ns : List ℤ). length ns ≤ 16777216) (λ e. omega (arith, draws_few, length-map draws reward_told)) (λ e. omega arith);
      each = all_within (neg_ℤ (pos 1000000)) (pos 1000000) (rewards_told forms)
          (cond_both (has_paid_draw forms) (map reward_told draws) [] (λ (ns : List ℤ). list_all is_reward ns ≡ true) (λ e. rewards_within limits draws draws_fine) (λ e. refl));
    };
  }

pub forms_in_range : (limits : Limits) (forms : List StateForm) → are_in_range limits forms ≡ true → AreListsInRange (lists_of_states forms)
forms_in_range limits forms h =
    let parts = and_parts (list_all (state_in_range limits) forms) _ h in
    let counts = and_parts (leb (length forms) MOST_STATES) _ parts.1 in
    let last = and_parts (leb (length (flat_map given_cells forms)) MOST_STATES) (ltb (draw_count_of (flat_map given_cells forms)) MOST_STATES) counts.1 in
    lists_in_range limits forms parts.0 (leb-true (length forms) MOST_STATES counts.0) (leb-true (length (flat_map given_cells forms)) MOST_STATES last.0)
    (ltb-true (draw_count_of (flat_map given_cells forms)) MOST_STATES last.1)
