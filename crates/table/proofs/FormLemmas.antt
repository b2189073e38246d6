-- What stands at each place of the six lists of a nested form.
use Rattle.std.proofs.Common.{◌≡◌, ℕ, zero, suc, ◌+◌, ◌*◌, ◌<◌, ◌≤◌, ℤ, pos, negsuc, Bool, true, false, not, ◌&&◌, eqb, leb, List, [], ◌∷◌, ◌++◌, length, map, take, drop, get_or, refl, ap, sym, subst, ◌∙◌, inl, inr, arith}
use Rattle.std.proofs.Math.Seq.{take-length}
use Rattle.std.proofs.lemmas.Bool.{and_from, and_parts, cases_lt, cond_both, cond-false, cond-true, eq-eqb, eqb-true, ne_eqb}
use Rattle.std.proofs.lemmas.List.{get_or_past, length-append, length-map}
use Rattle.std.proofs.lemmas.List.Concat.{get_or-flat_map}
use Rattle.std.proofs.lemmas.List.Folds.{list_all-append}
use Rattle.std.proofs.lemmas.Grind.{flat_map-append}
use Rattle.std.specs.Int.RustNames.{unsigned_abs}
use Rattle.std.specs.List.{flat_map, list_all}
use Rattle.sums.specs.Sums.{count_below}
use Rattle.sim_game.specs.declared.Limits.{Limits}
use Rattle.table.specs.Lists.{count_in, draws_end}
use Rattle.table.specs.Nested.{CellForm, Follows, Draws, StateForm, End, Rows, cell_in_range, columns_in, cells_told, draw_in_range, draw_told, draws_of_form, draws_told, is_reward, kept_cells, moves_told, names_state, ranks_told, reward_told, row_in_range, state_in_range, values_told}
use Rattle.table.specs.NestedGame.{form_at, rows_in}

-- ---- pieces one behind the other
-- how much stands before the piece at the place
abbrev pub before : {X Y : Type 0} → (X → List Y) → List X → ℕ → ℕ
before f xs i = length (flat_map f (take i xs))

pub before_more : {X Y : Type 0} (f : X → List Y) (xs : List X) (i : ℕ) (d : X) → i < length xs → before f xs (suc i) ≡ before f xs i + length (f (get_or xs i d))
before_more f [] i d h = absurd (omega arith)
before_more f (x ∷ xs) zero d h = omega (arith, length-append (f x) [])
before_more f (x ∷ xs) (suc i) d h =
    omega (arith, length-append (f x) (flat_map f (take (suc i) xs)), length-append (f x) (flat_map f (take i xs)), before_more f xs i d (omega arith))

pub before_all : {X Y : Type 0} (f : X → List Y) (xs : List X) → before f xs (length xs) ≡ length (flat_map f xs)
before_all f xs = ap (λ ys. length (flat_map f ys)) (take-length xs)

pub count_before : {X Y : Type 0} (f : X → List Y) (xs : List X) (d : X) (g : ℕ → ℕ) → ((k : ℕ) → k < length xs → g k ≡ length (f (get_or xs k d)))
    → (i : ℕ) → i ≤ length xs → count_below i g ≡ before f xs i
count_before f xs d g h zero le = refl
count_before f xs d g h (suc i) le = omega (arith, count_before f xs d g h i (omega arith), h i (omega arith), before_more f xs i d (omega arith))

-- where all pieces are of one length
pub before_even : {X Y : Type 0} (f : X → List Y) (xs : List X) (d : X) (n : ℕ) → ((k : ℕ) → k < length xs → length (f (get_or xs k d)) ≡ n)
    → (i : ℕ) → i ≤ length xs → before f xs i ≡ i * n
before_even f xs d n h zero le = omega arith
before_even f xs d n h (suc i) le = omega (arith, before_even f xs d n h i (omega arith), h i (omega arith), before_more f xs i d (omega arith))

-- ---- tests of all
pub all_in : {X : Type 0} (p : X → Bool) (xs : List X) (d : X) (k : ℕ) → list_all p xs ≡ true → k < length xs → p (get_or xs k d) ≡ true
all_in p [] d k h below = absurd (omega arith)
all_in p (x ∷ xs) d zero h below = (and_parts (p x) (list_all p xs) h).0
all_in p (x ∷ xs) d (suc k) h below = all_in p xs d k (and_parts (p x) (list_all p xs) h).1 (omega arith)

-- of what stands in pieces, where the test of a piece is that of all that it has
pub all_flat : {X Y : Type 0} (p : X → Bool) (q : Y → Bool) (f : X → List Y) → ((x : X) → p x ≡ true → list_all q (f x) ≡ true)
    → (xs : List X) → list_all p xs ≡ true → list_all q (flat_map f xs) ≡ true
all_flat p q f h [] all = refl
all_flat p q f h (x ∷ xs) all =
    let both = and_parts (p x) (list_all p xs) all in
    list_all-append q (f x) (flat_map f xs) ∙ and_from (list_all q (f x)) (list_all q (flat_map f xs)) (h x both.0) (all_flat p q f h xs both.1)

-- ---- cells
-- the number that stands for a cell before which there are so many draws
abbrev pub number_told : ℕ → CellForm → ℤ
number_told first (Follows state) = state
number_told first (Draws draws) = negsuc first

pub cells_count : (first : ℕ) (cells : List CellForm) → length (cells_told first cells) ≡ length cells
cells_count first [] = refl
cells_count first (Follows state ∷ cells) = ap suc (cells_count first cells)
cells_count first (Draws draws ∷ cells) = ap suc (cells_count (first + length draws) cells)

pub cell_told : (first : ℕ) (cells : List CellForm) (k : ℕ) → k < length cells
    → get_or (cells_told first cells) k (pos 0) ≡ number_told (first + before draws_of_form cells k) (get_or cells k (Follows (pos 0)))
cell_told first [] k h = absurd (omega arith)
cell_told first (Follows state ∷ cells) zero h = refl
cell_told first (Draws draws ∷ cells) zero h = ap negsuc (omega arith)
cell_told first (Follows state ∷ cells) (suc k) h = cell_told first cells k (omega arith)
cell_told first (Draws draws ∷ cells) (suc k) h =
    let same : first + length draws + before draws_of_form cells k ≡ first + before draws_of_form (Draws draws ∷ cells) (suc k) =
    omega (arith, length-append draws (flat_map draws_of_form (take k cells))) in
    cell_told (first + length draws) cells k (omega arith) ∙ ap (λ (n : ℕ). number_told n (get_or cells k (Follows (pos 0)))) same

-- where the draws end of the cells, before which there are so many
pub ends_told : (limits : Limits) (first total : ℕ) (cells : List CellForm) → list_all (cell_in_range limits) cells ≡ true → total ≡ first + length (flat_map draws_of_form cells)
    → draws_end (cells_told first cells) total ≡ first
ends_told limits first total [] h e = omega (arith, e)
ends_told limits first total (Follows (pos state) ∷ cells) h e = ends_told limits first total cells (and_parts (names_state limits (pos state)) (list_all (cell_in_range limits) cells) h).1 e
ends_told limits first total (Follows (negsuc state) ∷ cells) h e = absurd (cc)
ends_told limits first total (Draws draws ∷ cells) h e = refl

pub later_ends_told : (limits : Limits) (first total : ℕ) (cells : List CellForm) (k : ℕ) → list_all (cell_in_range limits) cells ≡ true → total ≡ first + length (flat_map draws_of_form cells)
    → draws_end (drop k (cells_told first cells)) total ≡ first + before draws_of_form cells k
later_ends_told limits first total cells zero h e = ends_told limits first total cells h e ∙ omega arith
later_ends_told limits first total [] (suc k) h e = omega (arith, e)
later_ends_told limits first total (Follows (pos state) ∷ cells) (suc k) h e =
    later_ends_told limits first total cells k (and_parts (names_state limits (pos state)) (list_all (cell_in_range limits) cells) h).1 e
later_ends_told limits first total (Follows (negsuc state) ∷ cells) (suc k) h e = absurd (cc)
later_ends_told limits first total (Draws draws ∷ cells) (suc k) h e =
    let rest = and_parts (cell_in_range limits (Draws draws)) (list_all (cell_in_range limits) cells) h in
    let more : total ≡ first + length draws + length (flat_map draws_of_form cells) = omega (arith, e, length-append draws (flat_map draws_of_form cells)) in
    later_ends_told limits (first + length draws) total cells k rest.1 more ∙ omega (arith, length-append draws (flat_map draws_of_form (take k cells)))

not_true : (b : Bool) → not b ≡ false → b ≡ true
not_true true h = refl
not_true false h = let e : true ≡ false = h in absurd (cc)

-- ---- draws
pub draws_flat : (cells : List CellForm) → flat_map draws_told cells ≡ flat_map draw_told (flat_map draws_of_form cells)
draws_flat [] = refl
draws_flat (cell ∷ cells) =
    ap (λ (ns : List ℤ). draws_told cell ++ ns) (draws_flat cells) ∙ sym (flat_map-append draw_told (draws_of_form cell) (flat_map draws_of_form cells))

draws_named : (limits : Limits) (cell : CellForm) → cell_in_range limits cell ≡ true → list_all (draw_in_range limits) (draws_of_form cell) ≡ true
draws_named limits (Follows state) h = refl
draws_named limits (Draws draws) h = (and_parts (leb (length draws) 255) (list_all (draw_in_range limits) draws) h).1

pub draws_in_range : (limits : Limits) (cells : List CellForm) → list_all (cell_in_range limits) cells ≡ true → list_all (draw_in_range limits) (flat_map draws_of_form cells) ≡ true
draws_in_range limits = all_flat (cell_in_range limits) (draw_in_range limits) draws_of_form (draws_named limits)

-- what is in range of a draw: the state, the weight and the reward
pub draw_parts : (limits : Limits) (draw : List ℤ) → draw_in_range limits draw ≡ true
    → (names_state limits (get_or draw 0 (pos 0)) ≡ true) × (names_state limits (get_or draw 1 (pos 0)) ≡ true) × (is_reward (reward_told draw) ≡ true)
draw_parts limits draw h =
    let numbers = (and_parts (leb 2 (length draw) && leb (length draw) 3) _ h).1 in
    let last = and_parts (names_state limits (get_or draw 0 (pos 0)) && names_state limits (get_or draw 1 (pos 0))) (is_reward (reward_told draw)) numbers in
    let first = and_parts (names_state limits (get_or draw 0 (pos 0))) (names_state limits (get_or draw 1 (pos 0))) last.0 in
    (first.0, first.1, last.1)

two_told : (draw : List ℤ) (i : ℕ) → i < 2 → count_in (draw_told draw) i ≡ count_in draw i
two_told draw zero h = refl
two_told draw (suc zero) h = refl
two_told draw (suc (suc i)) h = absurd (omega arith)

-- the number of a draw of the list, and of one of a cell
pub draw_at : (draws : List (List ℤ)) (k i : ℕ) → k < length draws → i < 2 → count_in (flat_map draw_told draws) (2 * k + i) ≡ count_in (get_or draws k []) i
draw_at draws k i below few =
    let place : 2 * k + i ≡ before draw_told draws k + i = omega (arith, before_even draw_told draws [] 2 (λ k h. refl) k (omega arith)) in
    ap (λ (n : ℕ). count_in (flat_map draw_told draws) n) place
    ∙ ap unsigned_abs (get_or-flat_map draw_told draws k i [] (pos 0) below (omega arith)) ∙ two_told (get_or draws k []) i few

-- where no draw has a reward each has two numbers
pub some_paid : (draws : List (List ℤ)) → not (list_all (λ (draw : List ℤ). eqb (length draw) 2) draws) ≡ true → not (eqb (length (map reward_told draws)) 0) ≡ true
some_paid [] h = let e : false ≡ true = h in absurd (cc)
some_paid (draw ∷ draws) h = ap not (ne_eqb (length (map reward_told (draw ∷ draws))) 0 (λ none. absurd (omega arith)))

pub all_unpaid : (draws : List (List ℤ)) (k : ℕ) → not (list_all (λ (draw : List ℤ). eqb (length draw) 2) draws) ≡ false → k < length draws → reward_told (get_or draws k []) ≡ pos 0
all_unpaid draws k h below =
    let draw = get_or draws k [] in
    let two = all_in (λ (draw : List ℤ). eqb (length draw) 2) draws [] k (not_true _ h) below in
    get_or_past draw 2 (pos 0) (omega (arith, eqb-true (length draw) 2 two))

-- ---- rows
shape_of : (row : List CellForm) (rows : List (List CellForm)) (k : ℕ) → list_all (λ (other : List CellForm). eqb (length other) (length row)) rows ≡ true → k < suc (length rows)
    → length (get_or (row ∷ rows) k []) ≡ length row
shape_of row rows zero h below = refl
shape_of row rows (suc k) h below = eqb-true (length (get_or rows k [])) (length row) (all_in (λ (other : List CellForm). eqb (length other) (length row)) rows [] k h (omega arith))

-- where rows are kept, each has as many cells
pub row_length : (rows : List (List CellForm)) (k : ℕ) → 1 ≤ columns_in rows → k < length rows → length (get_or rows k []) ≡ columns_in rows
row_length [] k some below = absurd (omega arith)
row_length (row ∷ rows) k some below =
    let test = list_all (λ (other : List CellForm). eqb (length other) (length row)) rows in
    cond_both test (length row) 0 (λ (n : ℕ). 1 ≤ n → length (get_or (row ∷ rows) k []) ≡ n) (λ e more. shape_of row rows k e below) (λ e none. absurd (omega arith)) some

pub kept_rows : (rows : List (List CellForm)) → 1 ≤ columns_in rows → kept_cells (Rows rows) ≡ flat_map (λ (row : List CellForm). row) rows
kept_rows rows some = cond-false (eqb (columns_in rows) 0) [] (flat_map (λ (row : List CellForm). row) rows) (ne_eqb (columns_in rows) 0 (λ e. absurd (omega arith)))

abbrev pub columns_of : StateForm → ℕ
columns_of (End payoff) = 0
columns_of (Rows rows) = columns_in rows

rows_before : (rows : List (List CellForm)) (a : ℕ) → 1 ≤ columns_in rows → a ≤ length rows → before (λ (row : List CellForm). row) rows a ≡ a * columns_in rows
rows_before rows a some below = before_even (λ (row : List CellForm). row) rows [] (columns_in rows) (λ k h. row_length rows k some h) a below

pub kept_count : (form : StateForm) → length (kept_cells form) ≡ length (rows_in form) * columns_of form
kept_count (End payoff) = omega arith
kept_count (Rows rows) = elim (cases_lt 0 (columns_in rows)) [
  | inl more ↦
      ap length (kept_rows rows (omega arith)) ∙ sym (before_all (λ (row : List CellForm). row) rows) ∙ rows_before rows (length rows) (omega arith) (omega arith)
  | inr none ↦
      let e : columns_in rows ≡ 0 = omega arith in
      ap length (cond-true (eqb (columns_in rows) 0) [] (flat_map (λ (row : List CellForm). row) rows) (eq-eqb (columns_in rows) 0 e)) ∙ rw e (omega arith)
]

-- the cell of two moves
pub kept_cell : (rows : List (List CellForm)) (a b : ℕ) → 1 ≤ columns_in rows → a < length rows → b < columns_in rows
    → get_or (kept_cells (Rows rows)) (a * columns_in rows + b) (Follows (pos 0)) ≡ get_or (get_or rows a []) b (Follows (pos 0))
kept_cell rows a b some one two =
    let place : a * columns_in rows + b ≡ before (λ (row : List CellForm). row) rows a + b = omega (arith, rows_before rows a some (omega arith)) in
    ap (λ (cells : List CellForm). get_or cells (a * columns_in rows + b) (Follows (pos 0))) (kept_rows rows some)
    ∙ ap (λ (n : ℕ). get_or (flat_map (λ (row : List CellForm). row) rows) n (Follows (pos 0))) place
    ∙ get_or-flat_map (λ (row : List CellForm). row) rows a b [] (Follows (pos 0)) one (omega (arith, row_length rows a some one))

row_named : (limits : Limits) (row : List CellForm) → row_in_range limits row ≡ true → list_all (cell_in_range limits) row ≡ true
row_named limits row h = (and_parts (leb (length row) 255) (list_all (cell_in_range limits) row) h).1

cells_named : (limits : Limits) (form : StateForm) → state_in_range limits form ≡ true → list_all (cell_in_range limits) (kept_cells form) ≡ true
cells_named limits (End payoff) h = refl
cells_named limits (Rows rows) h =
    let all = (and_parts (leb (length rows) 255) (list_all (row_in_range limits) rows) h).1 in
    cond_both (eqb (columns_in rows) 0) [] (flat_map (λ (row : List CellForm). row) rows) (λ (cells : List CellForm). list_all (cell_in_range limits) cells ≡ true)
    (λ e. refl) (λ e. all_flat (row_in_range limits) (cell_in_range limits) (λ (row : List CellForm). row) (row_named limits) rows all)

pub cells_in_range : (limits : Limits) (forms : List StateForm) → list_all (state_in_range limits) forms ≡ true → list_all (cell_in_range limits) (flat_map kept_cells forms) ≡ true
cells_in_range limits = all_flat (state_in_range limits) (cell_in_range limits) kept_cells (cells_named limits)

-- ---- states
two_moves : (form : StateForm) → length (moves_told form) ≡ 2
two_moves (End payoff) = refl
two_moves (Rows rows) = refl

moves_of_one : (form : StateForm) → count_in (moves_told form) 0 ≡ length (rows_in form)
moves_of_one (End payoff) = refl
moves_of_one (Rows rows) = refl

moves_of_two : (form : StateForm) → count_in (moves_told form) 1 ≡ columns_of form
moves_of_two (End payoff) = refl
moves_of_two (Rows rows) = refl

move_told : (forms : List StateForm) (s i place : ℕ) → place ≡ 2 * s + i → s < length forms → i < 2 → count_in (flat_map moves_told forms) place ≡ count_in (moves_told (form_at forms s)) i
move_told forms s i place e here few =
    let same : place ≡ before moves_told forms s + i = omega (arith, e, before_even moves_told forms (End (pos 0)) 2 (λ k h. two_moves (get_or forms k (End (pos 0)))) s (omega arith)) in
    ap (λ (n : ℕ). count_in (flat_map moves_told forms) n) same
    ∙ ap unsigned_abs (get_or-flat_map moves_told forms s i (End (pos 0)) (pos 0) here (omega (arith, two_moves (get_or forms s (End (pos 0))))))

pub rows_told : (forms : List StateForm) (s : ℕ) → s < length forms → count_in (flat_map moves_told forms) (2 * s) ≡ length (rows_in (form_at forms s))
rows_told forms s here = move_told forms s 0 (2 * s) (omega arith) here (omega arith) ∙ moves_of_one (form_at forms s)

pub columns_told : (forms : List StateForm) (s : ℕ) → s < length forms → count_in (flat_map moves_told forms) (2 * s + 1) ≡ columns_of (form_at forms s)
columns_told forms s here = move_told forms s 1 (2 * s + 1) refl here (omega arith) ∙ moves_of_two (form_at forms s)

pub moves_count : (forms : List StateForm) → length (flat_map moves_told forms) ≡ 2 * length forms
moves_count forms =
    omega (arith, before_all moves_told forms, before_even moves_told forms (End (pos 0)) 2 (λ k h. two_moves (get_or forms k (End (pos 0)))) (length forms) (omega arith))

-- the value of a state before which there are so many cells
abbrev pub value_told : ℕ → StateForm → ℤ
value_told cells (End payoff) = payoff
value_told cells (Rows rows) = pos cells

pub values_count : (cells : ℕ) (forms : List StateForm) → length (values_told cells forms) ≡ length forms
values_count cells [] = refl
values_count cells (End payoff ∷ forms) = ap suc (values_count cells forms)
values_count cells (Rows rows ∷ forms) = ap suc (values_count (cells + length (kept_cells (Rows rows))) forms)

pub value_at_told : (cells : ℕ) (forms : List StateForm) (s : ℕ) → s < length forms
    → get_or (values_told cells forms) s (pos 0) ≡ value_told (cells + before kept_cells forms s) (form_at forms s)
value_at_told cells [] s h = absurd (omega arith)
value_at_told cells (End payoff ∷ forms) zero h = refl
value_at_told cells (Rows rows ∷ forms) zero h = ap pos (omega arith)
value_at_told cells (End payoff ∷ forms) (suc s) h = value_at_told cells forms s (omega arith)
value_at_told cells (Rows rows ∷ forms) (suc s) h =
    let kept = kept_cells (Rows rows) in
    let same : cells + length kept + before kept_cells forms s ≡ cells + before kept_cells (Rows rows ∷ forms) (suc s) = omega (arith, length-append kept (flat_map kept_cells (take s forms))) in
    value_at_told (cells + length kept) forms s (omega arith) ∙ ap (λ (n : ℕ). value_told n (form_at forms s)) same

-- ---- ranks
-- ends have the rank 0, and no other state
abbrev pub IsRanked : StateForm → ℕ → Type 0
IsRanked (End payoff) rank = rank ≡ 0
IsRanked (Rows rows) rank = 1 ≤ rank

pub counts_told : (ns : List ℕ) (i : ℕ) → count_in (map pos ns) i ≡ get_or ns i 0
counts_told [] i = refl
counts_told (n ∷ ns) zero = refl
counts_told (n ∷ ns) (suc i) = counts_told ns i

ranked_told : (n : ℕ) (forms : List StateForm) (s : ℕ) → s < length forms → IsRanked (form_at forms s) (get_or (ranks_told n forms) s 0)
ranked_told n [] s h = absurd (omega arith)
ranked_told n (End payoff ∷ forms) zero h = refl
ranked_told n (Rows rows ∷ forms) zero h = omega arith
ranked_told n (form ∷ forms) (suc s) h = ranked_told (suc n) forms s (omega arith)

pub rank_told_at : (forms : List StateForm) (s : ℕ) → s < length forms → IsRanked (form_at forms s) (count_in (map pos (ranks_told 0 forms)) s)
rank_told_at forms s h = subst (λ (n : ℕ). IsRanked (form_at forms s) n) (sym (counts_told (ranks_told 0 forms) s)) (ranked_told 0 forms s h)

ranks_length : (n : ℕ) (forms : List StateForm) → length (ranks_told n forms) ≡ length forms
ranks_length n [] = refl
ranks_length n (form ∷ forms) = ap suc (ranks_length (suc n) forms)

pub ranks_count : (forms : List StateForm) → length (map pos (ranks_told 0 forms)) ≡ length forms
ranks_count forms = length-map (ranks_told 0 forms) pos ∙ ranks_length 0 forms
