-- Lists that grow at their end, as cells and states are told.
use Rattle.std.proofs.Common.{◌≡◌, ℕ, ℤ, pos, negsuc, neg_ℤ, ◌+◌, ◌<◌, ◌≤◌, ◌≤ℤ◌, List, [], ◌∷◌, ◌++◌, Bool, true, false, cond, ◌&&◌, map, length, take, drop, get_or, refl, ap, sym, ◌∙◌, subst, arith, zero-add, leb, ltb, eqb, suc, int_le, append_assoc, ◌⊎◌, inl, inr}
use Rattle.std.specs.List.{flat_map, list_all}
use Rattle.std.proofs.lemmas.Bool.{cond_both, and_parts, leb-true, ltb-true, eq-eqb}
use Rattle.std.proofs.lemmas.Float.{T_from_true}
use Rattle.std.proofs.lemmas.Grind.{flat_map-append}
use Rattle.std.proofs.Math.Bool.{and_assoc, and-true}
use Rattle.std.proofs.lemmas.Int.{ints}
use Rattle.std.proofs.lemmas.List.{append-nil, flat_map_more, get_or-map, get_or_past, map-append, length-map, length-append, take_more, map_more, take-append-drop, take_all}
use Rattle.std.proofs.lemmas.List.Concat.{flat_map_single, length-flat_map}
use Rattle.std.proofs.lemmas.List.Folds.{flat_map-map, list_all-append, list_all-map, length-flat_map-take}
use Rattle.std.proofs.lemmas.List.Sums.{AllPass-from_list_all, sum-map}
use Rattle.serde_json.specs.Data.{Data}
use Rattle.serde_json.specs.View.{view}
use Rattle.serde_json.specs.declared.value.Value.{Value}
use Rattle.sim_game.specs.declared.Limits.{Limits}
use Rattle.sim_game.specs.declared.Limits.TheVariants.{Wide}
use Rattle.table.specs.declared.nested.TheConstants.{MOST_STATES}
use Rattle.table.specs.Nested.{CellForm, Follows, Draws, StateForm, End, Rows, is_within, is_reward, names_state, cell_in_range, row_in_range, state_in_range, draws_of_form, draw_count_of, draw_in_range, cells_told, draw_told, reward_told, kept_draws, values_told, moves_told, kept_cells, given_cells, are_few, are_in_range, columns_in}
use Rattle.table.proofs.FormLemmas.{draw_parts}
use Rattle.table_text.specs.declared.lists.DrawLists.{DrawLists}
use Rattle.table_text.specs.declared.lists.Cells.{Cells}
use Rattle.table_text.specs.declared.lists.Lists.{Lists}
use Rattle.table_text.specs.Elements.{is_whole}
use Rattle.table_text.specs.States.{elements_of, whole_of, draw_form_of, cell_form_of, row_form_of, state_form_of, are_unpaid, AreDrawsOf, AddsDraws, AddsCells, AddsState, AreListsOf}
use Rattle.table_text.proofs.StateKinds.{all_elements, few_forms, state_list}
use Rattle.table_text.proofs.StateCounts.{draw_count_append, map-map, whole_has_none}

-- ---- ranges
pub within : (low high z : ℤ) → is_within low high z ≡ true → (low ≤ℤ z) × (z ≤ℤ high)
within low high z h =
    let both = and_parts (int_le low z) (int_le z high) h in
    (record { le = T_from_true (int_le low z) both.0 }, record { le = T_from_true (int_le z high) both.1 })

pub all_read : {X : Type 0} (test : X → Bool) (xs : List X) (i : ℕ) (x : X) → i < length xs → x ≡ get_or xs i x → list_all test xs ≡ true → test x ≡ true
all_read test xs i x below is h = ap test is ∙ AllPass-from_list_all test xs h i x below

-- what holds of all forms holds of the values
pub values_pass : {F : Type 0} (count : ℕ → Bool) (test : F → Bool) (form : Data → F) (vs : List Value) (d : Data) → map view vs ≡ elements_of d
    → (count (length (map form (elements_of d))) && list_all test (map form (elements_of d))) ≡ true → list_all (λ v. test (form (view v))) vs ≡ true
values_pass count test form vs d is h = (and_parts (count (length vs)) (list_all (λ v. test (form (view v))) vs) (few_forms count test form vs d is ∙ h)).1

pub forms_are : {F : Type 0} (form : Data → F) (vs : List Value) (d : Data) → map view vs ≡ elements_of d → map (λ v. form (view v)) vs ≡ map form (elements_of d)
forms_are form vs d is = sym (map-map form view vs) ∙ ap (map form) is

-- ---- the numbers of a draw
pub read_at : (vs : List Value) (d : Data) (i : ℕ) (v : Value) → map view vs ≡ elements_of d → i < length vs → v ≡ get_or vs i v → whole_of (view v) ≡ get_or (draw_form_of d) i (pos 0)
read_at vs d i v is below at =
    ap (λ (w : Value). whole_of (view w)) at ∙ sym (get_or-map (λ (w : Value). whole_of (view w)) vs i v (pos 0) below) ∙ ap (λ (zs : List ℤ). get_or zs i (pos 0)) (forms_are whole_of vs d is)

pub read_past : (vs : List Value) (d : Data) (i : ℕ) → map view vs ≡ elements_of d → length vs ≤ i → pos 0 ≡ get_or (draw_form_of d) i (pos 0)
read_past vs d i is past =
    sym (get_or_past (map (λ (w : Value). whole_of (view w)) vs) i (pos 0) (omega (arith, length-map vs (λ (w : Value). whole_of (view w)))))
    ∙ ap (λ (zs : List ℤ). get_or zs i (pos 0)) (forms_are whole_of vs d is)

pub draw_is : (limits : Limits) (draw : List ℤ) (count numbers : Bool) → count ≡ (leb 2 (length draw) && leb (length draw) 3)
    → numbers ≡ (names_state limits (get_or draw 0 (pos 0)) && names_state limits (get_or draw 1 (pos 0)) && is_reward (reward_told draw)) → (count && numbers) ≡ draw_in_range limits draw
draw_is limits draw count numbers c n = rw (c, n) refl

pub draw_not : (limits : Limits) (draw : List ℤ) (count : Bool) → count ≡ (leb 2 (length draw) && leb (length draw) 3) → count ≡ false → count ≡ draw_in_range limits draw
draw_not limits draw count c f =
    f ∙ sym (ap (λ (b : Bool). b && (names_state limits (get_or draw 0 (pos 0)) && names_state limits (get_or draw 1 (pos 0)) && is_reward (reward_told draw))) (sym c ∙ f))

-- each of them is small
pub record IsSmall (z : ℤ) : Type 0 where
  pub low : neg_ℤ (pos 2147483648) ≤ℤ z
  pub high : z ≤ℤ pos 2147483647

small : (low high z : ℤ) → neg_ℤ (pos 2147483648) ≤ℤ low → high ≤ℤ pos 2147483647 → is_within low high z ≡ true → IsSmall z
small low high z l h is = let both = within low high z is in record { low = omega (arith, ints, both.0); high = omega (arith, ints, both.1) }

pub record IsSmallDraw (draw : List ℤ) : Type 0 where
  pub state : IsSmall (get_or draw 0 (pos 0))
  pub weight : IsSmall (get_or draw 1 (pos 0))
  pub reward : IsSmall (get_or draw 2 (pos 0))

pub small_draw : (draw : List ℤ) → draw_in_range Wide draw ≡ true → IsSmallDraw draw
small_draw draw h =
    let parts = draw_parts Wide draw h in
    record {
      state = small (pos 0) (pos 16777215) (get_or draw 0 (pos 0)) (omega (arith, ints)) (omega (arith, ints)) parts.0;
      weight = small (pos 0) (pos 16777215) (get_or draw 1 (pos 0)) (omega (arith, ints)) (omega (arith, ints)) parts.1;
      reward = small (neg_ℤ (pos 1000000)) (pos 1000000) (get_or draw 2 (pos 0)) (omega (arith, ints)) (omega (arith, ints)) parts.2;
    }

-- ---- one more
pub appends_then : {X : Type 0} (a b c x y xy : List X) → b ≡ a ++ x → c ≡ b ++ y → xy ≡ x ++ y → c ≡ a ++ xy
appends_then {X} a b c x y xy first second both =
    second ∙ ap (λ (l : List X). l ++ y) first ∙ append_assoc a x y ∙ ap (λ (l : List X). a ++ l) (sym both)

pub take_more_read : {X : Type 0} (xs : List X) (i : ℕ) (x : X) → i < length xs → x ≡ get_or xs i x → take i xs ++ x ∷ [] ≡ take (i + 1) xs
take_more_read {X} xs i x below is = ap (λ (y : X). take i xs ++ y ∷ []) is ∙ sym (take_more xs i x below)

pub parts_more : {X Y : Type 0} (part : X → List Y) (xs : List X) (i : ℕ) (x : X) → i < length xs → x ≡ get_or xs i x
    → flat_map part (take (i + 1) xs) ≡ flat_map part (take i xs) ++ part x
parts_more {X} part xs i x below is = ap (λ (ys : List X). flat_map part ys) (sym (take_more_read xs i x below is)) ∙ sym (flat_map_more part [] (take i xs) x)

pub map_more_read : {X Y : Type 0} (f : X → Y) (xs : List X) (i : ℕ) (x : X) → i < length xs → x ≡ get_or xs i x → map f (take (i + 1) xs) ≡ map f (take i xs) ++ f x ∷ []
map_more_read {X} {Y} f xs i x below is = map_more f xs i x below ∙ ap (λ (y : X). map f (take i xs) ++ f y ∷ []) (sym is)

-- ---- counts
draw_count_cons : (cell : CellForm) (cells : List CellForm) → draw_count_of (cell ∷ cells) ≡ length (draws_of_form cell) + draw_count_of cells
draw_count_cons cell cells = draw_count_append (cell ∷ []) cells ∙ ap (λ (n : ℕ). n + draw_count_of cells) (zero-add (length (draws_of_form cell)))

-- a part and those before it have no more than all
pub draws_below : {X : Type 0} (part : X → List CellForm) (xs : List X) (i : ℕ) (x : X) → i < length xs → x ≡ get_or xs i x
    → draw_count_of (flat_map part (take i xs)) + draw_count_of (part x) ≤ draw_count_of (flat_map part xs)
draws_below {X} part xs i x below is =
    let whole = ap (λ (ys : List X). draw_count_of (flat_map part ys)) (sym (take-append-drop (i + 1) xs)) ∙ ap draw_count_of (flat_map-append part (take (i + 1) xs) (drop (i + 1) xs))
    ∙ draw_count_append (flat_map part (take (i + 1) xs)) (flat_map part (drop (i + 1) xs)) in
    let front = ap draw_count_of (parts_more part xs i x below is) ∙ draw_count_append (flat_map part (take i xs)) (part x) in
    omega (arith, whole, front)

-- ---- draws
pub draws_none : (lists : DrawLists) → AddsDraws lists lists []
draws_none lists = record {
  numbers = sym (append-nil lists.numbers.items);
  rewards = sym (append-nil lists.rewards.items);
  unpaid = sym (and-true lists.unpaid);
}

unpaid_then : (old : Bool) (xs ys : List (List ℤ)) → (old && are_unpaid xs && are_unpaid ys) ≡ (old && are_unpaid (xs ++ ys))
unpaid_then old xs ys =
    and_assoc old (are_unpaid xs) (are_unpaid ys) ∙ ap (λ (b : Bool). old && b) (sym (list_all-append (λ (draw : List ℤ). eqb (length draw) 2) xs ys))

pub draws_then : (old mid new : DrawLists) (xs ys : List (List ℤ)) → AddsDraws old mid xs → AddsDraws mid new ys → AddsDraws old new (xs ++ ys)
draws_then old mid new xs ys first second = record {
  numbers = appends_then old.numbers.items mid.numbers.items new.numbers.items (flat_map draw_told xs) (flat_map draw_told ys) (flat_map draw_told (xs ++ ys)) first.numbers second.numbers
      (flat_map-append draw_told xs ys);
  rewards = appends_then old.rewards.items mid.rewards.items new.rewards.items (map reward_told xs) (map reward_told ys) (map reward_told (xs ++ ys)) first.rewards second.rewards
      (map-append reward_told xs ys);
  unpaid = second.unpaid ∙ ap (λ (b : Bool). b && are_unpaid ys) first.unpaid ∙ unpaid_then old.unpaid xs ys;
}

-- one draw more of those that are read
pub draws_more : (old mid new : DrawLists) (vs : List Value) (i : ℕ) (v : Value) → i < length vs → v ≡ get_or vs i v → AddsDraws old mid (map (λ v. draw_form_of (view v)) (take i vs))
    → AddsDraws mid new (draw_form_of (view v) ∷ []) → AddsDraws old new (map (λ v. draw_form_of (view v)) (take (i + 1) vs))
draws_more old mid new vs i v below is before here =
    subst (λ (draws : List (List ℤ)). AddsDraws old new draws) (sym (map_more_read (λ (w : Value). draw_form_of (view w)) vs i v below is))
    (draws_then old mid new (map (λ (w : Value). draw_form_of (view w)) (take i vs)) (draw_form_of (view v) ∷ []) before here)

-- how many there are
pub draws_counted : (cells : List CellForm) → draw_count_of cells ≡ length (flat_map draws_of_form cells)
draws_counted cells = sum-map (λ (cell : CellForm). length (draws_of_form cell)) cells ∙ sym (length-flat_map draws_of_form cells)

pub count_more : (old new : DrawLists) (draws : List (List ℤ)) → AddsDraws old new draws → length new.rewards.items ≡ length old.rewards.items + length draws
count_more old new draws h =
    ap (λ (zs : List ℤ). length zs) h.rewards ∙ length-append old.rewards.items (map reward_told draws)
    ∙ ap (λ (n : ℕ). length old.rewards.items + n) (length-map draws reward_told)

pub count_all : (lists : DrawLists) (draws : List (List ℤ)) → AreDrawsOf draws lists → length lists.rewards.items ≡ length draws
count_all lists draws h = ap (λ (zs : List ℤ). length zs) h.rewards ∙ length-map draws reward_told

pub are_draws_then : (mid new : DrawLists) (xs ys : List (List ℤ)) → AreDrawsOf xs mid → AddsDraws mid new ys → AreDrawsOf (xs ++ ys) new
are_draws_then mid new xs ys before here = record {
  numbers = here.numbers ∙ ap (λ (zs : List ℤ). zs ++ flat_map draw_told ys) before.numbers ∙ sym (flat_map-append draw_told xs ys);
  rewards = here.rewards ∙ ap (λ (zs : List ℤ). zs ++ map reward_told ys) before.rewards ∙ sym (map-append reward_told xs ys);
  unpaid = here.unpaid ∙ ap (λ (b : Bool). b && are_unpaid ys) before.unpaid ∙ sym (list_all-append (λ (draw : List ℤ). eqb (length draw) 2) xs ys);
}

-- ---- cells
cells_told-append : (draws : ℕ) (xs ys : List CellForm) → cells_told draws (xs ++ ys) ≡ cells_told draws xs ++ cells_told (draws + draw_count_of xs) ys
cells_told-append draws [] ys = let same : draws ≡ draws + 0 = omega arith in ap (λ (n : ℕ). cells_told n ys) same
cells_told-append draws (Follows state ∷ xs) ys =
    let same : draws + draw_count_of xs ≡ draws + draw_count_of (Follows state ∷ xs) = omega (arith, draw_count_cons (Follows state) xs) in
    ap (λ (zs : List ℤ). state ∷ zs) (cells_told-append draws xs ys ∙ ap (λ (n : ℕ). cells_told draws xs ++ cells_told n ys) same)
cells_told-append draws (Draws more ∷ xs) ys =
    let same : draws + length more + draw_count_of xs ≡ draws + draw_count_of (Draws more ∷ xs) = omega (arith, draw_count_cons (Draws more) xs) in
    ap (λ (zs : List ℤ). negsuc draws ∷ zs) (cells_told-append (draws + length more) xs ys ∙ ap (λ (n : ℕ). cells_told (draws + length more) xs ++ cells_told n ys) same)

pub length-cells_told : (draws : ℕ) (cells : List CellForm) → length (cells_told draws cells) ≡ length cells
length-cells_told draws [] = refl
length-cells_told draws (Follows state ∷ cells) = ap (λ (n : ℕ). suc n) (length-cells_told draws cells)
length-cells_told draws (Draws more ∷ cells) = ap (λ (n : ℕ). suc n) (length-cells_told (draws + length more) cells)

pub adds_none : (cells : Cells) → AddsCells cells cells []
adds_none cells = record { numbers = sym (append-nil cells.numbers.items); draws = draws_none cells.draws }

-- how many draws there are then
pub adds_count : (old new : Cells) (cells : List CellForm) → AddsCells old new cells → length new.draws.rewards.items ≡ length old.draws.rewards.items + draw_count_of cells
adds_count old new cells h =
    count_more old.draws new.draws (flat_map draws_of_form cells) h.draws ∙ ap (λ (n : ℕ). length old.draws.rewards.items + n) (sym (draws_counted cells))

pub adds_then : (old mid new : Cells) (xs ys : List CellForm) → AddsCells old mid xs → AddsCells mid new ys → AddsCells old new (xs ++ ys)
adds_then old mid new xs ys first second =
    let count = length old.draws.rewards.items in
    record {
      numbers = appends_then old.numbers.items mid.numbers.items new.numbers.items (cells_told count xs) (cells_told (length mid.draws.rewards.items) ys) (cells_told count (xs ++ ys))
          first.numbers second.numbers
          (cells_told-append count xs ys ∙ ap (λ (n : ℕ). cells_told count xs ++ cells_told n ys) (sym (adds_count old mid xs first)));
      draws = subst (λ (draws : List (List ℤ)). AddsDraws old.draws new.draws draws) (sym (flat_map-append draws_of_form xs ys))
          (draws_then old.draws mid.draws new.draws (flat_map draws_of_form xs) (flat_map draws_of_form ys) first.draws second.draws);
    }

pub adds_more : {X : Type 0} (part : X → List CellForm) (old mid new : Cells) (xs : List X) (i : ℕ) (x : X) → i < length xs → x ≡ get_or xs i x
    → AddsCells old mid (flat_map part (take i xs)) → AddsCells mid new (part x) → AddsCells old new (flat_map part (take (i + 1) xs))
adds_more part old mid new xs i x below is before here =
    subst (λ (cells : List CellForm). AddsCells old new cells) (sym (parts_more part xs i x below is)) (adds_then old mid new (flat_map part (take i xs)) (part x) before here)

pub adds_all : {X : Type 0} (part : X → List CellForm) (old new : Cells) (xs : List X) (i : ℕ) → length xs ≤ i → AddsCells old new (flat_map part (take i xs)) → AddsCells old new (flat_map part xs)
adds_all {X} part old new xs i all h = subst (λ (ys : List X). AddsCells old new (flat_map part ys)) (take_all i xs all) h

-- room for one more
pub room_more : {X : Type 0} (part : X → List CellForm) (most : ℕ) (old mid : Cells) (xs : List X) (i : ℕ) (x : X) → i < length xs → x ≡ get_or xs i x
    → AddsCells old mid (flat_map part (take i xs)) → length old.draws.rewards.items + draw_count_of (flat_map part xs) ≤ most → length mid.draws.rewards.items + draw_count_of (part x) ≤ most
room_more part most old mid xs i x below is before room = omega (arith, adds_count old mid (flat_map part (take i xs)) before, draws_below part xs i x below is)

-- ---- the rows that are kept
pub columns_are : (x : Value) (xs : List Value) (n : ℕ) → n ≡ length (row_form_of (view x))
    → columns_in (map (λ v. row_form_of (view v)) (x ∷ xs)) ≡ cond (list_all (λ v. eqb (length (row_form_of (view v))) n) (x ∷ xs)) n 0
columns_are x xs n is =
    rw (eq-eqb (length (row_form_of (view x))) n (sym is), ← is, list_all-map (λ (row : List CellForm). eqb (length row) n) (λ (v : Value). row_form_of (view v)) xs) refl

pub columns_first : (rows : List Value) (first : Value) (n : ℕ) (long : Bool) → 1 ≤ length rows → first ≡ get_or rows 0 first → n ≡ length (row_form_of (view first))
    → long ≡ list_all (λ v. eqb (length (row_form_of (view v))) n) rows → cond long n 0 ≡ columns_in (map (λ v. row_form_of (view v)) rows)
columns_first [] first n long some is at test = absurd (omega arith)
columns_first (x ∷ xs) first n long some is at test = rw test (sym (columns_are x xs n (at ∙ ap (λ (v : Value). length (row_form_of (view v))) is)))

kept_are : (d : Data) → kept_cells (state_form_of d) ≡ cond (eqb (columns_in (map row_form_of (elements_of d))) 0) [] (flat_map row_form_of (elements_of d))
kept_are d =
    elim (is_whole d) as (λ b. is_whole d ≡ b → kept_cells (cond b (End (whole_of d)) (Rows (map row_form_of (elements_of d))))
    ≡ cond (eqb (columns_in (map row_form_of (elements_of d))) 0) [] (flat_map row_form_of (elements_of d))) [
      | true ↦ λ is. sym (ap (λ (es : List Data). cond (eqb (columns_in (map row_form_of es)) 0) [] (flat_map row_form_of es)) (whole_has_none d is))
      | false ↦ λ is. ap (λ (cells : List CellForm). cond (eqb (columns_in (map row_form_of (elements_of d))) 0) [] cells) (flat_map-map (λ row. row) row_form_of (elements_of d))
    ] refl

-- the rows of the code
pub kept_is : (vs : List Value) (d : Data) (n : ℕ) → map view vs ≡ elements_of d → n ≡ columns_in (map (λ v. row_form_of (view v)) vs)
    → cond (eqb n 0) [] (flat_map (λ v. row_form_of (view v)) vs) ≡ kept_cells (state_form_of d)
kept_is vs d n is count =
    rw (count, forms_are row_form_of vs d is) (ap (λ (cells : List CellForm). cond (eqb (columns_in (map row_form_of (elements_of d))) 0) [] cells) (sym (flat_map-map row_form_of view vs)
    ∙ ap (flat_map row_form_of) is) ∙ sym (kept_are d))

-- the cells of a row
pub row_cells : (vs : List Value) (d : Data) → map view vs ≡ elements_of d → flat_map (λ v. cell_form_of (view v) ∷ []) vs ≡ row_form_of d
row_cells vs d is = flat_map_single (λ (v : Value). cell_form_of (view v)) vs ∙ forms_are cell_form_of vs d is

-- ---- the rows of a state
pub rows_few : (rows : List (List CellForm)) → list_all (row_in_range Wide) rows ≡ true → columns_in rows ≤ 255
rows_few [] h = omega arith
rows_few (row ∷ rows) h =
    let here = (and_parts (row_in_range Wide row) (list_all (row_in_range Wide) rows) h).0 in
    let few = leb-true (length row) 255 (and_parts (leb (length row) 255) (list_all (cell_in_range Wide) row) here).0 in
    cond_both (list_all (λ (other : List CellForm). eqb (length other) (length row)) rows) (length row) 0 (λ (n : ℕ). n ≤ 255) (λ _. few) (λ _. omega arith)

columns_few : (vs : List Value) → list_all (λ v. row_in_range Wide (row_form_of (view v))) vs ≡ true → columns_in (map (λ v. row_form_of (view v)) vs) ≤ 255
columns_few vs h = rows_few (map (λ v. row_form_of (view v)) vs) (list_all-map (row_in_range Wide) (λ (v : Value). row_form_of (view v)) vs ∙ h)

pub record AreRows (vs : List Value) : Type 0 where
  pub few : length vs ≤ 255
  pub columns : columns_in (map (λ v. row_form_of (view v)) vs) ≤ 255
  pub range : list_all (λ v. row_in_range Wide (row_form_of (view v))) vs ≡ true

pub are_rows : (vs : List Value) (d : Data) → map view vs ≡ elements_of d → is_whole d ≡ false → state_in_range Wide (state_form_of d) ≡ true → AreRows vs
are_rows vs d is whole h =
    let both = and_parts (leb (length vs) 255) (list_all (λ v. row_in_range Wide (row_form_of (view v))) vs)
    (few_forms (λ n. leb n 255) (row_in_range Wide) row_form_of vs d is ∙ sym (ap (state_in_range Wide) (state_list d whole)) ∙ h) in
    record { few = leb-true (length vs) 255 both.0; columns = columns_few vs both.1; range = both.1 }

pub kept_range : (rows kept : List Value) (d : Data) → map view rows ≡ elements_of d → (kept ≡ []) ⊎ (map view kept ≡ elements_of d)
    → list_all (λ v. row_in_range Wide (row_form_of (view v))) rows ≡ true → list_all (λ v. row_in_range Wide (row_form_of (view v))) kept ≡ true
kept_range rows kept d is (inl none) h = rw none refl
kept_range rows kept d is (inr all) h = all_elements (λ e. row_in_range Wide (row_form_of e)) kept d all ∙ sym (all_elements (λ e. row_in_range Wide (row_form_of e)) rows d is) ∙ h

-- ---- states
values_told-append : (cells : ℕ) (xs ys : List StateForm) → values_told cells (xs ++ ys) ≡ values_told cells xs ++ values_told (cells + length (flat_map kept_cells xs)) ys
values_told-append cells [] ys = let same : cells ≡ cells + 0 = omega arith in ap (λ (n : ℕ). values_told n ys) same
values_told-append cells (End payoff ∷ xs) ys = ap (λ (zs : List ℤ). payoff ∷ zs) (values_told-append cells xs ys)
values_told-append cells (Rows rows ∷ xs) ys =
    let more = length (kept_cells (Rows rows)) in
    let same : cells + more + length (flat_map kept_cells xs) ≡ cells + length (kept_cells (Rows rows) ++ flat_map kept_cells xs)
    = omega (arith, length-append (kept_cells (Rows rows)) (flat_map kept_cells xs)) in
    ap (λ (zs : List ℤ). pos cells ∷ zs) (values_told-append (cells + more) xs ys ∙ ap (λ (n : ℕ). values_told (cells + more) xs ++ values_told n ys) same)

pub lists_more : (xs : List StateForm) (form : StateForm) (mid new : Lists) → AreListsOf xs mid → AddsState mid new form → AreListsOf (xs ++ form ∷ []) new
lists_more xs form mid new before here =
    let old_cells = flat_map kept_cells xs in
    let count = ap (λ (zs : List ℤ). length zs) before.cells ∙ length-cells_told 0 old_cells in
    let kept = flat_map-append kept_cells xs (form ∷ []) ∙ ap (λ (cells : List CellForm). old_cells ++ cells) (append-nil (kept_cells form)) in
    let told : length mid.cells.draws.rewards.items ≡ 0 + draw_count_of old_cells = omega (arith, count_all mid.cells.draws (kept_draws xs) before.draws, draws_counted old_cells) in
    record {
      moves = here.moves ∙ ap (λ (zs : List ℤ). zs ++ moves_told form) before.moves
          ∙ sym (flat_map-append moves_told xs (form ∷ []) ∙ ap (λ (zs : List ℤ). flat_map moves_told xs ++ zs) (append-nil (moves_told form)));
      values = here.values ∙ ap (λ (zs : List ℤ). zs ++ values_told (length mid.cells.numbers.items) (form ∷ [])) before.values
          ∙ ap (λ (n : ℕ). values_told 0 xs ++ values_told n (form ∷ [])) (count ∙ sym (zero-add _))
          ∙ sym (values_told-append 0 xs (form ∷ []));
      cells = here.cells.numbers ∙ ap (λ (zs : List ℤ). zs ++ cells_told (length mid.cells.draws.rewards.items) (kept_cells form)) before.cells
          ∙ ap (λ (n : ℕ). cells_told 0 old_cells ++ cells_told n (kept_cells form)) told ∙ sym (cells_told-append 0 old_cells (kept_cells form))
          ∙ ap (cells_told 0) (sym kept);
      draws = subst (λ (draws : List (List ℤ)). AreDrawsOf draws new.cells.draws)
          (sym (flat_map-append draws_of_form old_cells (kept_cells form)) ∙ ap (flat_map draws_of_form) (sym kept))
          (are_draws_then mid.cells.draws new.cells.draws (kept_draws xs) (flat_map draws_of_form (kept_cells form)) before.draws here.cells.draws);
    }

pub moves_are : (vs : List Value) (d : Data) (columns : ℕ) → map view vs ≡ elements_of d → is_whole d ≡ false → columns ≡ columns_in (map (λ v. row_form_of (view v)) vs)
    → moves_told (state_form_of d) ≡ pos (length vs) ∷ pos columns ∷ []
moves_are vs d columns is whole count =
    ap moves_told (state_list d whole) ∙ ap (λ (rows : List (List CellForm)). moves_told (Rows rows)) (sym (forms_are row_form_of vs d is))
    ∙ rw (length-map vs (λ (v : Value). row_form_of (view v)), ← count) refl

pub values_are : (cells : ℕ) (d : Data) → is_whole d ≡ false → values_told cells (state_form_of d ∷ []) ≡ pos cells ∷ []
values_are cells d whole = ap (λ (form : StateForm). values_told cells (form ∷ [])) (state_list d whole)

-- ---- no more is kept than is given
pub record IsLess (xs ys : List CellForm) : Type 0 where
  pub cells : length xs ≤ length ys
  pub draws : draw_count_of xs ≤ draw_count_of ys

kept_less : (form : StateForm) → IsLess (kept_cells form) (given_cells form)
kept_less (End payoff) = record { cells = omega arith; draws = omega arith }
kept_less (Rows rows) = cond_both (eqb (columns_in rows) 0) [] (flat_map (λ row. row) rows) (λ (cells : List CellForm). IsLess cells (given_cells (Rows rows)))
    (λ _. record { cells = omega arith; draws = omega arith }) (λ _. record { cells = omega arith; draws = omega arith })

pub all_kept_less : (forms : List StateForm) → IsLess (flat_map kept_cells forms) (flat_map given_cells forms)
all_kept_less [] = record { cells = omega arith; draws = omega arith }
all_kept_less (form ∷ forms) =
    let here = kept_less form in
    let more = all_kept_less forms in
    record {
      cells = omega (arith, here.cells, more.cells, length-append (kept_cells form) (flat_map kept_cells forms), length-append (given_cells form) (flat_map given_cells forms));
      draws = omega (arith, here.draws, more.draws, draw_count_append (kept_cells form) (flat_map kept_cells forms), draw_count_append (given_cells form) (flat_map given_cells forms));
    }

-- ---- what is known of states in range
pub record AreStates (vs : List Value) : Type 0 where
  pub range : list_all (λ v. state_in_range Wide (state_form_of (view v))) vs ≡ true
  pub few : length vs ≤ MOST_STATES
  pub cells : length (flat_map (λ v. kept_cells (state_form_of (view v))) vs) ≤ MOST_STATES
  pub draws : draw_count_of (flat_map (λ v. kept_cells (state_form_of (view v))) vs) ≤ MOST_STATES

pub are_states_in_range : (vs : List Value) → are_in_range Wide (map (λ v. state_form_of (view v)) vs) ≡ true → AreStates vs
are_states_in_range vs h =
    let forms = map (λ (v : Value). state_form_of (view v)) vs in
    let given = flat_map given_cells forms in
    let first = and_parts (list_all (state_in_range Wide) forms) (are_few (length forms) (length given) (draw_count_of given)) h in
    let second = and_parts (leb (length forms) MOST_STATES) (leb (length given) MOST_STATES && ltb (draw_count_of given) MOST_STATES) first.1 in
    let third = and_parts (leb (length given) MOST_STATES) (ltb (draw_count_of given) MOST_STATES) second.1 in
    let less = all_kept_less forms in
    let kept = flat_map-map kept_cells (λ (v : Value). state_form_of (view v)) vs in
    record {
      range = sym (list_all-map (state_in_range Wide) (λ (v : Value). state_form_of (view v)) vs) ∙ first.0;
      few = omega (arith, leb-true (length forms) MOST_STATES second.0, length-map vs (λ (v : Value). state_form_of (view v)));
      cells = subst (λ (cells : List CellForm). length cells ≤ MOST_STATES) kept (omega (arith, less.cells, leb-true (length given) MOST_STATES third.0));
      draws = subst (λ (cells : List CellForm). draw_count_of cells ≤ MOST_STATES) kept (omega (arith, less.draws, ltb-true (draw_count_of given) MOST_STATES third.1));
    }

pub few_so_far : (vs : List Value) (i : ℕ) (v : Value) (lists : Lists) → AreStates vs → i < length vs → AreListsOf (map (λ v. state_form_of (view v)) (take i vs)) lists
    → length lists.cells.numbers.items ≤ MOST_STATES
few_so_far vs i v lists states below before =
    let kept = flat_map-map kept_cells (λ (v : Value). state_form_of (view v)) (take i vs) in
    omega (
      arith,
      states.cells,
      ap (λ (zs : List ℤ). length zs) before.cells,
      length-cells_told 0 (flat_map kept_cells (map (λ v. state_form_of (view v)) (take i vs))),
      ap (λ (cells : List CellForm). length cells) kept,
      length-flat_map-take (λ (v : Value). kept_cells (state_form_of (view v))) vs i v below,
    )

pub room_so_far : (vs : List Value) (i : ℕ) (v : Value) (lists : Lists) → AreStates vs → i < length vs → v ≡ get_or vs i v → AreListsOf (map (λ v. state_form_of (view v)) (take i vs)) lists
    → length lists.cells.draws.rewards.items + draw_count_of (kept_cells (state_form_of (view v))) ≤ MOST_STATES
room_so_far vs i v lists states below is before =
    let forms = map (λ (v : Value). state_form_of (view v)) (take i vs) in
    let kept = flat_map-map kept_cells (λ (v : Value). state_form_of (view v)) (take i vs) in
    omega (
      arith,
      states.draws,
      count_all lists.cells.draws (kept_draws forms) before.draws,
      draws_counted (flat_map kept_cells forms),
      ap draw_count_of kept,
      draws_below (λ (v : Value). kept_cells (state_form_of (view v))) vs i v below is,
    )

pub lists_at : (vs : List Value) (i : ℕ) (v : Value) (mid new : Lists) → i < length vs → v ≡ get_or vs i v → AreListsOf (map (λ v. state_form_of (view v)) (take i vs)) mid
    → AddsState mid new (state_form_of (view v)) → AreListsOf (map (λ v. state_form_of (view v)) (take (i + 1) vs)) new
lists_at vs i v mid new below is before here =
    subst (λ (forms : List StateForm). AreListsOf forms new) (sym (map_more_read (λ (v : Value). state_form_of (view v)) vs i v below is))
    (lists_more (map (λ v. state_form_of (view v)) (take i vs)) (state_form_of (view v)) mid new before here)
