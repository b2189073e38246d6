-- Reading the fields of an object one after the other, as a loop does.
use Rattle.std.proofs.Common.{◌≡◌, ℕ, ◌+◌, ◌<◌, ◌≤◌, List, [], ◌∷◌, ◌++◌, length, take, drop, get_or, Result, Ok, Err, sym, ap, subst, ◌∙◌, refl, append_assoc, append-nil}
use Rattle.std.proofs.lemmas.List.{drop_more, drop_all, map_more, take_all}
use Rattle.serde_json.specs.Data.{Data}
use Rattle.fields.specs.declared.field.FieldKind.{FieldKind}
use Rattle.fields.specs.declared.field.Value.{Value}
use Rattle.fields.specs.Fields.{FieldRow, Fits, AllFit}
use Rattle.fields.specs.Positions.{kinds_in}
use Rattle.position.specs.declared.games.InputError.{InputError}
use Rattle.position.specs.declared.games.InputError.TheVariants.{NoMemory}
use Rattle.position.specs.Objects.{◌>>=◌, Fails, value_at, values_at}

abbrev Values : Type 0
Values = Result (List Value) InputError

-- what was read, behind what was read before
abbrev pub behind : List Value → Values → Values
behind front read = read >>= λ vs. Ok (front ++ vs)

regroup : (front : List Value) (v : Value) (read : Values) → behind front (read >>= λ vs. Ok (v ∷ vs)) ≡ behind (front ++ v ∷ []) read
regroup front v (Ok vs) = ap (λ (ws : List Value). Ok ws) (sym (append_assoc front (v ∷ []) vs))
regroup front v (Err e) = refl

pub value_more : (rows : List FieldRow) (i : ℕ) (row : FieldRow) (front : List Value) (v : Value) (d : Data) (whole : Values) → i < length rows
    → value_at (get_or rows i row).0 (get_or rows i row).1 d ≡ Ok v → behind front (values_at (drop i rows) d) ≡ whole
    → behind (front ++ v ∷ []) (values_at (drop (i + 1) rows) d) ≡ whole
unfolding values_at
value_more rows i row front v d whole lt is so_far =
    let one : behind front (values_at (drop i rows) d) ≡ behind (front ++ v ∷ []) (values_at (drop (i + 1) rows) d) =
    rw (drop_more rows i row lt, is) (regroup front v (values_at (drop (i + 1) rows) d)) in
    sym one ∙ so_far

value_stops : (e : InputError) (rows : List FieldRow) (i : ℕ) (row : FieldRow) (front : List Value) (d : Data) (whole : Values) → i < length rows
    → behind front (values_at (drop i rows) d) ≡ whole → value_at (get_or rows i row).0 (get_or rows i row).1 d ≡ Err e → whole ≡ Err e
unfolding values_at
value_stops e rows i row front d whole lt so_far is =
    let one : behind front (values_at (drop i rows) d) ≡ Err e = rw (drop_more rows i row lt, is) refl in
    sym so_far ∙ one

-- the refusal of a value is that of the values
pub value_fails : (e : InputError) (rows : List FieldRow) (i : ℕ) (row : FieldRow) (front : List Value) (d : Data) (whole : Values) → i < length rows
    → behind front (values_at (drop i rows) d) ≡ whole → Fails e (value_at (get_or rows i row).0 (get_or rows i row).1 d) → Fails e whole
value_fails NoMemory rows i row front d whole lt so_far fault = tt
value_fails e rows i row front d whole lt so_far fault = value_stops e rows i row front d whole lt so_far fault

pub values_done : (rows : List FieldRow) (i : ℕ) (front : List Value) (d : Data) (whole : Values) → length rows ≤ i → behind front (values_at (drop i rows) d) ≡ whole → whole ≡ Ok front
unfolding values_at
values_done rows i front d whole le so_far =
    let one : behind front (values_at (drop i rows) d) ≡ Ok front = rw (drop_all i rows le) (ap (λ (vs : List Value). Ok vs) (append-nil front)) in
    sym so_far ∙ one

-- ---- they fit
fit_then : (ks : List FieldKind) (vs : List Value) (k : FieldKind) (v : Value) → AllFit ks vs → Fits k v → AllFit (ks ++ k ∷ []) (vs ++ v ∷ [])
fit_then [] [] k v h fits = (fits, tt)
fit_then [] (w ∷ vs) k v h fits = absurd h
fit_then (l ∷ ks) [] k v h fits = absurd h
fit_then (l ∷ ks) (w ∷ vs) k v h fits = (h.0, fit_then ks vs k v h.1 fits)

pub fit_more : (rows : List FieldRow) (i : ℕ) (row : FieldRow) (vs : List Value) (v : Value) → i < length rows → AllFit (kinds_in (take i rows)) vs → Fits (get_or rows i row).1 v
    → AllFit (kinds_in (take (i + 1) rows)) (vs ++ v ∷ [])
fit_more rows i row vs v lt h fits =
    subst (λ (ks : List FieldKind). AllFit ks (vs ++ v ∷ [])) (sym (map_more (λ (r : FieldRow). r.1) rows i row lt)) (fit_then (kinds_in (take i rows)) vs (get_or rows i row).1 v h fits)

pub fit_all : (rows : List FieldRow) (i : ℕ) (vs : List Value) → length rows ≤ i → AllFit (kinds_in (take i rows)) vs → AllFit (kinds_in rows) vs
fit_all rows i vs le h = subst (λ (rs : List FieldRow). AllFit (kinds_in rs) vs) (take_all i rows le) h
