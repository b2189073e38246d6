-- How many cells and draws there are, by counts that stop at a number.
use Rattle.std.proofs.Common.{◌≡◌, ℕ, ◌+◌, ◌≤◌, min, List, [], ◌∷◌, ◌++◌, Bool, true, false, cond, map, length, refl, ap, sym, ◌∙◌, arith, sum, zero-add, ◌&&◌}
use Rattle.std.specs.List.{flat_map, fold, sum_by, list_all}
use Rattle.std.proofs.lemmas.List.{length-map, length-append}
use Rattle.std.proofs.lemmas.List.Folds.{flat_map-map, list_all-map}
use Rattle.std.proofs.lemmas.List.Sums.{sum-map, sum_by-append}
use Rattle.serde_json.specs.Data.{Data, null, boolean, number, string, array, object}
use Rattle.serde_json.specs.View.{view}
use Rattle.serde_json.specs.declared.value.Value.{Value}
use Rattle.sim_game.specs.declared.Limits.{Limits}
use Rattle.table.specs.Nested.{CellForm, End, Rows, given_cells, draws_of_form, draw_count_of, state_in_range, are_few, are_in_range}
use Rattle.table_text.specs.Elements.{is_whole}
use Rattle.table_text.specs.States.{elements_of, whole_of, cell_form_of, row_form_of, state_form_of}

pub map-map : {A B C : Type 0} (f : B → C) (g : A → B) (xs : List A) → map f (map g xs) ≡ map (λ x. f (g x)) xs
map-map f g [] = refl
map-map {A} {B} {C} f g (x ∷ xs) = ap (λ (ys : List C). f (g x) ∷ ys) (map-map f g xs)

-- ---- counts
pub draw_count_append : (xs ys : List CellForm) → draw_count_of (xs ++ ys) ≡ draw_count_of xs + draw_count_of ys
draw_count_append xs ys =
    let n : CellForm → ℕ = λ cell. length (draws_of_form cell) in
    sum-map n (xs ++ ys) ∙ sum_by-append n xs ys ∙ sym (ap (λ (a : ℕ). a + sum_by n ys) (sum-map n xs)) ∙ sym (ap (λ (b : ℕ). sum (map n xs) + b) (sum-map n ys))

-- a count of each part that stops at a number is one of the whole
pub capped : {X : Type 0} (most : ℕ) (part : X → ℕ) (whole : List X → ℕ) → whole [] ≡ 0
    → ((x : X) (xs : List X) → min (whole (x ∷ xs)) most ≡ min (part x + whole xs) most)
    → (n : ℕ) (xs : List X) → n ≤ most → fold (λ n x. min (n + part x) most) n xs ≡ min (n + whole xs) most
capped most part whole none more n [] few = omega (arith, none)
capped most part whole none more n (x ∷ xs) few =
    capped most part whole none more (min (n + part x) most) xs (omega arith)
    ∙ omega (arith, more x xs)

-- ---- the cells that a state is given
pub whole_has_none : (d : Data) → is_whole d ≡ true → elements_of d ≡ []
whole_has_none null h = refl
whole_has_none (boolean b) h = refl
whole_has_none (number n) h = refl
whole_has_none (string s) h = refl
whole_has_none (array ds) h = absurd (cc)
whole_has_none (object ms) h = refl

pub given_is : (d : Data) → given_cells (state_form_of d) ≡ flat_map row_form_of (elements_of d)
given_is d =
    elim (is_whole d) as (λ b. is_whole d ≡ b → given_cells (cond b (End (whole_of d)) (Rows (map row_form_of (elements_of d)))) ≡ flat_map row_form_of (elements_of d)) [
      | true ↦ λ is. sym (ap (flat_map row_form_of) (whole_has_none d is))
      | false ↦ λ is. flat_map-map (λ row. row) row_form_of (elements_of d)
    ] refl

-- the same, over values
pub cells_given : (vs : List Value) (d : Data) → map view vs ≡ elements_of d → flat_map (λ v. row_form_of (view v)) vs ≡ given_cells (state_form_of d)
cells_given vs d is = sym (flat_map-map row_form_of view vs) ∙ ap (flat_map row_form_of) is ∙ sym (given_is d)

pub row_is : (vs : List Value) (d : Data) → map view vs ≡ elements_of d → map (λ v. cell_form_of (view v)) vs ≡ row_form_of d
row_is vs d is = sym (map-map cell_form_of view vs) ∙ ap (map cell_form_of) is

-- ---- the counts of the code
single_cells : {X : Type 0} (form : X → CellForm) (xs : List X) → flat_map (λ x. form x ∷ []) xs ≡ map form xs
single_cells form [] = refl
single_cells form (x ∷ xs) = ap (λ (cells : List CellForm). form x ∷ cells) (single_cells form xs)

-- the size of cells that stand in parts
capped_parts : {X : Type 0} (most : ℕ) (part : X → ℕ) (cells : X → List CellForm) (size : List CellForm → ℕ) → size [] ≡ 0
    → ((xs ys : List CellForm) → size (xs ++ ys) ≡ size xs + size ys) → ((x : X) → min (part x) most ≡ min (size (cells x)) most)
    → (xs : List X) → fold (λ n x. min (n + part x) most) 0 xs ≡ min (size (flat_map cells xs)) most
capped_parts most part cells size none more same xs =
    capped most part (λ ys. size (flat_map cells ys)) none (λ x ys. omega (arith, more (cells x) (flat_map cells ys), same x)) 0 xs (omega arith)
    ∙ ap (λ (n : ℕ). min n most) (zero-add (size (flat_map cells xs)))

capped_twice : (n most : ℕ) → min (min n most) most ≡ min n most
capped_twice n most = omega arith

pub cells_in_rows : (most : ℕ) (vs : List Value) → fold (λ n v. min (n + length (row_form_of (view v))) most) 0 vs ≡ min (length (flat_map (λ v. row_form_of (view v)) vs)) most
cells_in_rows most vs = capped_parts most (λ v. length (row_form_of (view v))) (λ v. row_form_of (view v)) (λ cells. length cells) refl (λ xs ys. length-append xs ys) (λ v. refl) vs

pub cells_in_states : (most : ℕ) (vs : List Value)
    → fold (λ n v. min (n + min (length (given_cells (state_form_of (view v)))) most) most) 0 vs ≡ min (length (flat_map (λ v. given_cells (state_form_of (view v))) vs)) most
cells_in_states most vs =
    capped_parts most (λ v. min (length (given_cells (state_form_of (view v)))) most) (λ v. given_cells (state_form_of (view v))) (λ cells. length cells) refl (λ xs ys. length-append xs ys)
    (λ v. capped_twice (length (given_cells (state_form_of (view v)))) most) vs

pub draws_in_cells : (most : ℕ) (vs : List Value)
    → fold (λ n v. min (n + length (draws_of_form (cell_form_of (view v)))) most) 0 vs ≡ min (draw_count_of (map (λ v. cell_form_of (view v)) vs)) most
draws_in_cells most vs =
    capped_parts most (λ v. length (draws_of_form (cell_form_of (view v)))) (λ v. cell_form_of (view v) ∷ []) draw_count_of refl draw_count_append
    (λ v. ap (λ (n : ℕ). min n most) (sym (zero-add (length (draws_of_form (cell_form_of (view v))))))) vs
    ∙ ap (λ (cells : List CellForm). min (draw_count_of cells) most) (single_cells (λ v. cell_form_of (view v)) vs)

pub draws_in_rows : (most : ℕ) (vs : List Value)
    → fold (λ n v. min (n + min (draw_count_of (row_form_of (view v))) most) most) 0 vs ≡ min (draw_count_of (flat_map (λ v. row_form_of (view v)) vs)) most
draws_in_rows most vs =
    capped_parts most (λ v. min (draw_count_of (row_form_of (view v))) most) (λ v. row_form_of (view v)) draw_count_of refl draw_count_append
    (λ v. capped_twice (draw_count_of (row_form_of (view v))) most) vs

pub draws_in_states : (most : ℕ) (vs : List Value)
    → fold (λ n v. min (n + min (draw_count_of (given_cells (state_form_of (view v)))) most) most) 0 vs ≡ min (draw_count_of (flat_map (λ v. given_cells (state_form_of (view v))) vs)) most
draws_in_states most vs =
    capped_parts most (λ v. min (draw_count_of (given_cells (state_form_of (view v)))) most) (λ v. given_cells (state_form_of (view v))) draw_count_of refl draw_count_append
    (λ v. capped_twice (draw_count_of (given_cells (state_form_of (view v)))) most) vs

-- ---- all of the range
in_range_parts : (limits : Limits) (vs : List Value) → are_in_range limits (map (λ v. state_form_of (view v)) vs)
    ≡ (list_all (λ v. state_in_range limits (state_form_of (view v))) vs
    && are_few (length vs) (length (flat_map (λ v. given_cells (state_form_of (view v))) vs)) (draw_count_of (flat_map (λ v. given_cells (state_form_of (view v))) vs)))
in_range_parts limits vs =
    rw (list_all-map (state_in_range limits) (λ v. state_form_of (view v)) vs, length-map vs (λ v. state_form_of (view v)), flat_map-map given_cells (λ v. state_form_of (view v)) vs) refl

pub in_range_is : (limits : Limits) (vs : List Value) (all few : Bool) → all ≡ list_all (λ v. state_in_range limits (state_form_of (view v))) vs
    → few ≡ are_few (length vs) (length (flat_map (λ v. given_cells (state_form_of (view v))) vs)) (draw_count_of (flat_map (λ v. given_cells (state_form_of (view v))) vs))
    → (all && few) ≡ are_in_range limits (map (λ v. state_form_of (view v)) vs)
in_range_is limits vs all few a f = rw (a, f) (sym (in_range_parts limits vs))

pub in_range_not : (limits : Limits) (vs : List Value) (all : Bool) → all ≡ list_all (λ v. state_in_range limits (state_form_of (view v))) vs → all ≡ false
    → all ≡ are_in_range limits (map (λ v. state_form_of (view v)) vs)
in_range_not limits vs all a f =
    let cells = flat_map (λ (v : Value). given_cells (state_form_of (view v))) vs in
    f ∙ sym (in_range_parts limits vs ∙ ap (λ (b : Bool). b && are_few (length vs) (length cells) (draw_count_of cells)) (sym a ∙ f))
