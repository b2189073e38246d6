-- A `Value`'s elements as the list that the definitions read.
use Rattle.std.proofs.Common.{◌≡◌, ℕ, List, [], ◌∷◌, Bool, true, false, ◌&&◌, ◌||◌, map, length, Some, None, Option, refl, ap, sym, ◌∙◌, option_map, unwrap_or, is_some}
use Rattle.std.specs.List.{list_all}
use Rattle.std.proofs.lemmas.List.{length-map}
use Rattle.std.proofs.lemmas.List.Folds.{list_all-map}
use Rattle.serde_json.specs.Data.{Data, Items}
use Rattle.serde_json.specs.Find.{as_array}
use Rattle.serde_json.specs.View.{view, items_view}
use Rattle.serde_json.specs.declared.value.Value.{Value}
use Rattle.table.specs.Nested.{Follows, Draws, End, Rows}
use Rattle.table_text.specs.Elements.{list_of, is_whole}
use Rattle.table_text.specs.States.{elements_of, is_list_of, whole_of, draw_form_of, cell_form_of, row_form_of, state_form_of}

pub list_of_items : (vs : List Value) → list_of (items_view vs) ≡ map view vs
list_of_items [] = refl
list_of_items (v ∷ vs) = ap (λ (ds : List Data). view v ∷ ds) (list_of_items vs)

pub elements_some : (vs : List Value) (d : Data) → Some (items_view vs) ≡ as_array d → map view vs ≡ elements_of d
elements_some vs d is = sym (list_of_items vs) ∙ ap (λ (o : Option Items). unwrap_or (option_map list_of o) []) is

pub elements_none : (d : Data) → None ≡ as_array d → [] ≡ elements_of d
elements_none d is = ap (λ (o : Option Items). unwrap_or (option_map list_of o) []) is

-- a test of each value is one of what they stand for
pub all_elements : (test : Data → Bool) (vs : List Value) (d : Data) → map view vs ≡ elements_of d → list_all (λ v. test (view v)) vs ≡ list_all test (elements_of d)
all_elements test vs d is = sym (list_all-map test view vs) ∙ ap (λ (ds : List Data). list_all test ds) is

-- a list whose elements were tested
pub list_from : (test : Data → Bool) (vs : List Value) (d : Data) (all is_list : Bool) → map view vs ≡ elements_of d → is_list ≡ is_some (as_array d) → is_list ≡ true
    → all ≡ list_all (λ v. test (view v)) vs → all ≡ is_list_of test d
list_from test vs d all is_list is l t h = rw (sym l ∙ t) (h ∙ all_elements test vs d is)

-- their forms, with a test of how many there are
pub few_forms : {F : Type 0} (count : ℕ → Bool) (test : F → Bool) (form : Data → F) (vs : List Value) (d : Data) → map view vs ≡ elements_of d
    → (count (length vs) && list_all (λ v. test (form (view v))) vs) ≡ (count (length (map form (elements_of d))) && list_all test (map form (elements_of d)))
few_forms {F} count test form vs d is =
    rw (← is, length-map (map view vs) form, length-map vs view, list_all-map test form (map view vs), list_all-map (λ e. test (form e)) view vs) refl

pub cell_whole : (d : Data) → is_whole d ≡ true → cell_form_of d ≡ Follows (whole_of d)
cell_whole d is = rw is refl

pub cell_list : (d : Data) → is_whole d ≡ false → cell_form_of d ≡ Draws (map draw_form_of (elements_of d))
cell_list d is = rw is refl

pub state_whole : (d : Data) → is_whole d ≡ true → state_form_of d ≡ End (whole_of d)
state_whole d is = rw is refl

pub state_list : (d : Data) → is_whole d ≡ false → state_form_of d ≡ Rows (map row_form_of (elements_of d))
state_list d is = rw is refl

-- the same, where a whole number would do
pub whole_or_list : (test : Data → Bool) (vs : List Value) (d : Data) (all is_list whole : Bool) → map view vs ≡ elements_of d → is_list ≡ is_some (as_array d) → is_list ≡ true
    → all ≡ list_all (λ v. test (view v)) vs
    → whole ≡ is_whole d → whole ≡ false → all ≡ (is_whole d || is_list_of test d)
whole_or_list test vs d all is_list whole is l t h w f = rw (sym w ∙ f) (list_from test vs d all is_list is l t h)
