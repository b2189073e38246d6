-- Reading the fields of a line one after the other, as loops do.
use Rattle.std.proofs.Common.{◌≡◌, ℕ, ◌+◌, ◌<◌, ◌≤◌, List, [], ◌∷◌, ◌++◌, length, drop, get_or, Bool, true, false, ◌==◌, Ok, Err, refl, sym, ap, ◌∙◌, append-nil}
use Rattle.std.proofs.lemmas.List.{drop_more, drop_all}
use Rattle.fields.specs.declared.field.Value.{Value}
use Rattle.fields.specs.Fields.{FieldRow}
use Rattle.fields.specs.Positions.{kinds_in}
use Rattle.certificate.specs.declared.error.TextError.{TextError}
use Rattle.certificate.specs.declared.error.TextError.TheVariants.{NoMemory}
use Rattle.certificate.specs.Unread.{Unread}
use Rattle.certificate.specs.Readers.{Fails}
use Rattle.certificate.specs.Positions.{first_has_form, have_form, value, values}
use Rattle.certificate.proofs.RowLemmas.{Listed, behind, regroup}

next : (rows : List FieldRow) (i : ℕ) (d : FieldRow) → i < length rows → kinds_in (drop i rows) ≡ (get_or rows i d).1 ∷ kinds_in (drop (i + 1) rows)
next rows i d lt = ap kinds_in (drop_more rows i d lt)

none_left : (rows : List FieldRow) (i : ℕ) → length rows ≤ i → kinds_in (drop i rows) ≡ []
none_left rows i le = ap kinds_in (drop_all i rows le)

-- ---- their forms

pub form_more : (rows : List FieldRow) (i : ℕ) (d : FieldRow) (fs : List (List ℕ)) (whole : Bool) → i < length rows → first_has_form (get_or rows i d).1 fs ≡ true
    → have_form (kinds_in (drop i rows)) fs ≡ whole → have_form (kinds_in (drop (i + 1) rows)) (drop 1 fs) ≡ whole
unfolding have_form
form_more rows i d fs whole lt here so_far =
    let one : have_form (kinds_in (drop i rows)) fs ≡ have_form (kinds_in (drop (i + 1) rows)) (drop 1 fs) = rw (next rows i d lt, here) refl in
    sym one ∙ so_far

pub form_none : (rows : List FieldRow) (i : ℕ) (d : FieldRow) (fs : List (List ℕ)) (whole : Bool) → i < length rows → first_has_form (get_or rows i d).1 fs ≡ false
    → have_form (kinds_in (drop i rows)) fs ≡ whole → false ≡ whole
unfolding have_form
form_none rows i d fs whole lt here so_far =
    let one : have_form (kinds_in (drop i rows)) fs ≡ false = rw (next rows i d lt, here) refl in
    sym one ∙ so_far

pub form_done : (rows : List FieldRow) (i : ℕ) (fs : List (List ℕ)) (whole : Bool) → length rows ≤ i → have_form (kinds_in (drop i rows)) fs ≡ whole → (length fs == 0) ≡ whole
unfolding have_form
form_done rows i fs whole le so_far =
    let one : have_form (kinds_in (drop i rows)) fs ≡ (length fs == 0) = rw (none_left rows i le) refl in
    sym one ∙ so_far

-- ---- their values

pub value_more : (rows : List FieldRow) (i : ℕ) (d : FieldRow) (front : List Value) (u after : Unread) (v : Value) (whole : Listed Value) → i < length rows
    → value (get_or rows i d).1 u ≡ Ok (v, after) → behind front (values (kinds_in (drop i rows)) u) ≡ whole
    → behind (front ++ v ∷ []) (values (kinds_in (drop (i + 1) rows)) after) ≡ whole
unfolding values
value_more rows i d front u after v whole lt is so_far =
    let one : behind front (values (kinds_in (drop i rows)) u) ≡ behind (front ++ v ∷ []) (values (kinds_in (drop (i + 1) rows)) after) =
    rw (next rows i d lt, is) (regroup front v (values (kinds_in (drop (i + 1) rows)) after)) in
    sym one ∙ so_far

value_stops : (e : TextError) (rows : List FieldRow) (i : ℕ) (d : FieldRow) (front : List Value) (u : Unread) (whole : Listed Value) → i < length rows
    → behind front (values (kinds_in (drop i rows)) u) ≡ whole → value (get_or rows i d).1 u ≡ Err e → whole ≡ Err e
unfolding values
value_stops e rows i d front u whole lt so_far is =
    let one : behind front (values (kinds_in (drop i rows)) u) ≡ Err e = rw (next rows i d lt, is) refl in
    sym so_far ∙ one

-- the fault of a value is the fault of the values
pub value_fails : (e : TextError) (rows : List FieldRow) (i : ℕ) (d : FieldRow) (front : List Value) (u : Unread) (whole : Listed Value) → i < length rows
    → behind front (values (kinds_in (drop i rows)) u) ≡ whole → Fails e (value (get_or rows i d).1 u) → Fails e whole
value_fails NoMemory rows i d front u whole lt so_far fault = tt
value_fails e rows i d front u whole lt so_far fault = value_stops e rows i d front u whole lt so_far fault

pub values_done : (rows : List FieldRow) (i : ℕ) (front : List Value) (u : Unread) (whole : Listed Value) → length rows ≤ i
    → behind front (values (kinds_in (drop i rows)) u) ≡ whole → whole ≡ Ok (front, u)
unfolding values
values_done rows i front u whole le so_far =
    let one : behind front (values (kinds_in (drop i rows)) u) ≡ Ok (front, u) = rw (none_left rows i le) (ap (λ (vs : List Value). Ok (vs, u)) (append-nil front)) in
    sym so_far ∙ one
