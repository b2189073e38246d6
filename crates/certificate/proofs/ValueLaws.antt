-- Reading and writing the values of fields undo each other, whatever the fields.
use Rattle.std.proofs.Common.{◌≡◌, ℕ, ◌+◌, ◌*◌, ◌^◌, ◌<◌, ◌≤◌, ℤ, unsigned_abs, List, [], ◌∷◌, ◌++◌, length, map, flat_map, drop, Bool, true, false, cond, ◌==◌, ◌&&◌, ltb, ltb-true, leb-true, eqb-true, None, Some, Ok, All, refl, sym, ap, subst, ◌∙◌, arith}
use Rattle.std.proofs.Math.Dec.{eqb-suc-zero}
use Rattle.std.proofs.lemmas.Int.{ints}
use Rattle.std.specs.Fmt.{signed_decimal}
use Rattle.std.proofs.lemmas.Bool.{and_parts}
use Rattle.std.proofs.lemmas.Option.{option_and_then_some}
use Rattle.std.proofs.lemmas.List.{nil_from_length}
use Rattle.std.proofs.lemmas.List.Elements.{All-cons, All-nil}
use Rattle.std.proofs.lemmas.Slice.Eq.{bytes_eq-Decides}
use Rattle.text.specs.Texts.{line_text}
use Rattle.certificate.specs.declared.error.TextError.TheVariants.{Line, Number as NumberFault}
use Rattle.fields.specs.declared.field.Word.{Word}
use Rattle.fields.specs.declared.field.Word.TheVariants.{Margin, Win, Prizes, Regret, Linear, Oracle, Induction}
use Rattle.fields.specs.declared.field.Choices.{Choices}
use Rattle.fields.specs.declared.field.FieldKind.{FieldKind}
use Rattle.fields.specs.declared.field.FieldKind.TheVariants.{Number, List as ListOf, Numbers as NumbersOf, Optional as OptionalOf, Word as WordOf}
use Rattle.fields.specs.declared.field.Value.{Value}
use Rattle.fields.specs.declared.field.Value.TheVariants as holds
use Rattle.certificate.specs.Unread.{Unread}
use Rattle.certificate.specs.Numbers.{natural_in, integer_in}
use Rattle.fields.specs.Numbers.{Between, IsNumberList}
use Rattle.certificate.specs.Readers.{list_in, some_list_in, spelled}
use Rattle.fields.specs.Fields.{spelling, choices_of, word_in, Fits, AllFit}
use Rattle.certificate.specs.Spellings.{has_form, joined_list, value_text, value_fields, value_in}
use Rattle.certificate.specs.Positions.{first_has_form, have_form, is_left_out, value, values, line_values}
use Rattle.certificate.proofs.Spelling.{IsField, is_word, clean_word, find_passes, option_map_some, integer_takes, integer_spells, list_spells, numbers_spells}
use Rattle.certificate.proofs.FieldLaws.{line_more, bind_ok, test_ok, ok_is, spelled_takes, spelled_again}

-- ---- one value

-- the ends of a range of numbers have a text
abbrev have_texts : ℤ → ℤ → Bool
have_texts low high = ltb (unsigned_abs low) (2 ^ 63) && ltb (unsigned_abs high) (2 ^ 63)

abbrev pub is_small : FieldKind → Bool
is_small (Number low high) = have_texts low high
is_small (ListOf most) = true
is_small (NumbersOf low high most) = have_texts low high
is_small (OptionalOf low high most) = have_texts low high
is_small (WordOf choices) = true

-- the most bytes of a value's text
abbrev pub longest : FieldKind → ℕ
longest (Number low high) = 20
longest (ListOf most) = most * 21 + 1
longest (NumbersOf low high most) = most * 21 + 1
longest (OptionalOf low high most) = most * 21 + 1
longest (WordOf choices) = 20

are_near : (low high : ℤ) → have_texts low high ≡ true → (z : ℤ) → Between low high z → unsigned_abs z < 2 ^ 63
are_near low high small z fits =
    let ends = and_parts (ltb (unsigned_abs low) (2 ^ 63)) (ltb (unsigned_abs high) (2 ^ 63)) small in
    omega (arith, ints, fits.0, fits.1, ltb-true _ _ ends.0, ltb-true _ _ ends.1)

word_is : (choices : Choices) (text : List ℕ) (w : Word) → word_in choices text ≡ Some w → text ≡ spelling w
word_is choices text w e = (bytes_eq-Decides text (spelling w)).0 (find_passes _ (choices_of choices) w e)

-- a list that is not empty
some_is : (ys zs : List ℤ) → cond (length ys == 0) None (Some ys) ≡ Some zs → (0 < length ys) × (ys ≡ zs)
some_is [] zs e = absurd cc
some_is (y ∷ ys) zs e = let f = rw (eqb-suc-zero (length ys)) at e in (omega arith, cc)

some_fields : (ys : List ℤ) → 0 < length ys → joined_list (map signed_decimal ys) ∷ [] ≡ value_fields (holds.Optional ys)
some_fields [] some = absurd (omega (arith, some))
some_fields (y ∷ ys) some = refl

word_clean : (w : Word) → is_word (spelling w) ≡ true
word_clean Margin = refl
word_clean Win = refl
word_clean Prizes = refl
word_clean Regret = refl
word_clean Linear = refl
word_clean Oracle = refl
word_clean Induction = refl

some_most : (most : ℕ) → 0 < most → (most == 0) ≡ false
some_most most some = grind arith

optional_takes : (low high : ℤ) (most : ℕ) (text : List ℕ) (zs : List ℤ) → ((z : ℤ) → Between low high z → unsigned_abs z < 2 ^ 63)
    → some_list_in (integer_in low high) most text ≡ Some zs → (text ∷ [] ≡ value_fields (holds.Optional zs)) × IsNumberList low high most zs
unfolding some_list_in
optional_takes low high most text zs near e =
    option_and_then_some _ _ zs e (λ ys is h.
    let same = some_is ys zs h in
    let t = (numbers_spells low high most near).takes text ys is in
    subst (λ zs. (text ∷ [] ≡ value_fields (holds.Optional zs)) × IsNumberList low high most zs) same.1 (ap (λ t. t ∷ []) t.0 ∙ some_fields ys same.0, t.1))

-- what a field with a value spells
value_takes : (k : FieldKind) (text : List ℕ) (v : Value) → is_small k ≡ true → value_in k text ≡ Some v → (text ∷ [] ≡ value_fields v) × Fits k v
unfolding some_list_in
value_takes (Number low high) text v small e =
    let m = option_map_some (λ z. holds.Number z) (integer_in low high text) v e in
    let t = integer_takes low high text m.0 m.1 in
    subst (λ v. (text ∷ [] ≡ value_fields v) × Fits (Number low high) v) m.2 (ap (λ t. t ∷ []) t.0, t.1)
value_takes (ListOf most) text v small e =
    let m = option_map_some (λ ns. holds.List ns) (list_in (natural_in 0 255) most text) v e in
    let t = (list_spells most).takes text m.0 m.1 in
    subst (λ v. (text ∷ [] ≡ value_fields v) × Fits (ListOf most) v) m.2 (ap (λ t. t ∷ []) t.0, t.1)
value_takes (NumbersOf low high most) text v small e =
    let m = option_map_some (λ zs. holds.Numbers zs) (list_in (integer_in low high) most text) v e in
    let t = (numbers_spells low high most (are_near low high small)).takes text m.0 m.1 in
    subst (λ v. (text ∷ [] ≡ value_fields v) × Fits (NumbersOf low high most) v) m.2 (ap (λ t. t ∷ []) t.0, t.1)
value_takes (OptionalOf low high most) text v small e =
    let m = option_map_some (λ zs. holds.Optional zs) (some_list_in (integer_in low high) most text) v e in
    subst (λ v. (text ∷ [] ≡ value_fields v) × Fits (OptionalOf low high most) v) m.2 (optional_takes low high most text m.0 (are_near low high small) m.1)
value_takes (WordOf choices) text v small e =
    let m = option_map_some (λ w. holds.Word w) (word_in choices text) v e in
    let same = word_is choices text m.0 m.1 in
    subst (λ v. (text ∷ [] ≡ value_fields v) × Fits (WordOf choices) v) m.2 (ap (λ t. t ∷ []) same, subst (λ t. word_in choices t ≡ Some m.0) same m.1)

-- a value that has a field
abbrev is_given : Value → Bool
is_given (holds.Optional []) = false
is_given v = true

-- what is written of a value that fits and has a field
record Writes (k : FieldKind) (v : Value) : Type 0 where
  fields : value_fields v ≡ value_text v ∷ []
  again : value_in k (value_text v) ≡ Some v
  form : has_form k (value_text v) ≡ true
  clean : IsField (value_text v)
  short : length (value_text v) ≤ longest k

writes : (k : FieldKind) (v : Value) → is_small k ≡ true → Fits k v → is_given v ≡ true → Writes k v
unfolding some_list_in
writes (Number low high) (holds.Number z) small fits given =
    let law = integer_spells low high (are_near low high small) in
    record { fields = refl; again = rw (law.again z fits) refl; form = refl; clean = law.clean z fits; short = law.short z fits }
writes (ListOf most) (holds.List ns) small fits given =
    let law = list_spells most in
    record { fields = refl; again = rw (law.again ns fits) refl; form = refl; clean = law.clean ns fits; short = law.short ns fits }
writes (NumbersOf low high most) (holds.Numbers zs) small fits given =
    let law = numbers_spells low high most (are_near low high small) in
    record { fields = refl; again = rw (law.again zs fits) refl; form = refl; clean = law.clean zs fits; short = law.short zs fits }
writes (OptionalOf low high most) (holds.Optional []) small fits given = absurd cc
writes (OptionalOf low high most) (holds.Optional (z ∷ zs)) small fits given =
    let law = numbers_spells low high most (are_near low high small) in record {
      fields = refl;
      again = rw (law.again (z ∷ zs) fits, eqb-suc-zero (length zs)) refl;
      form = rw (some_most most (omega (arith, fits.few))) refl;
      clean = law.clean (z ∷ zs) fits;
      short = law.short (z ∷ zs) fits;
    }
writes (WordOf choices) (holds.Word w) small fits given =
    let parts = and_parts _ _ (word_clean w) in
    record { fields = refl; again = rw fits refl; form = rw fits refl; clean = clean_word (spelling w) parts.0; short = leb-true _ _ parts.1 }
writes k v small fits given = absurd fits

-- ---- all values of a line

-- an optional field is the last
abbrev is_last : FieldKind → List FieldKind → Bool
is_last (OptionalOf low high most) ks = length ks == 0
is_last k ks = true

abbrev pub are_small : List FieldKind → Bool
are_small [] = true
are_small (k ∷ ks) = is_small k && (is_last k ks && are_small ks)

-- the most bytes of a line of such values
abbrev pub longest_line : List FieldKind → ℕ
longest_line [] = 1
longest_line (k ∷ ks) = longest k + 1 + longest_line ks

left_out_is : (k : FieldKind) (fs : List (List ℕ)) → is_left_out k fs ≡ true → (fs ≡ []) × Fits k (holds.Optional [])
left_out_is (OptionalOf low high most) fs e = (nil_from_length fs (eqb-true (length fs) 0 e), record { few = omega arith; within = All-nil (Between low high) })
left_out_is k fs e = absurd cc

given_is : (k : FieldKind) (f : List ℕ) (fs : List (List ℕ)) → is_left_out k (f ∷ fs) ≡ false
given_is (OptionalOf low high most) f fs = eqb-suc-zero (length fs)
given_is k f fs = refl

-- what was read of a field
record TakesValue (k : FieldKind) (u : Unread) (v : Value × Unread) : Type 0 where
  here : u.parts ≡ value_fields v.0 ++ v.1.parts
  rest : v.1.parts ≡ drop 1 u.parts
  fits : Fits k v.0

one_value : (k : FieldKind) (u : Unread) (v : Value × Unread) → is_small k ≡ true → value k u ≡ Ok v → TakesValue k u v
unfolding value
one_value k u v small e =
    let P : Bool → Type 0 = λ b. is_left_out k u.parts ≡ b → cond b (Ok (holds.Optional [], u)) (spelled NumberFault (value_in k) u) ≡ Ok v → TakesValue k u v in
    elim (is_left_out k u.parts) as P [
      | true ↦ λ is h.
          let out = left_out_is k u.parts is in
          subst (TakesValue k u) (ok_is (holds.Optional [], u) v h) (record { here = refl; rest = rw (out.0) refl; fits = out.1 })
      | false ↦ λ is h.
          let first = spelled_takes NumberFault (value_in k) u v h in
          let one = value_takes k first.first v.0 small first.is in
          record { here = first.here ∙ ap (λ (fs : List (List ℕ)). fs ++ v.1.parts) one.0; rest = sym (ap (drop 1) first.here); fits = one.1 }
    ] refl e

values_take : (ks : List FieldKind) (u : Unread) (x : List Value × Unread) → are_small ks ≡ true → have_form ks u.parts ≡ true → values ks u ≡ Ok x
    → (u.parts ≡ flat_map value_fields x.0) × AllFit ks x.0
unfolding values have_form
values_take [] u x small form e =
    subst (λ (x : List Value × Unread). (u.parts ≡ flat_map value_fields x.0) × AllFit [] x.0) (ok_is ([], u) x e) (nil_from_length u.parts (omega (arith, eqb-true _ _ form)), tt)
values_take (k ∷ ks) u x small form e =
    let s = and_parts _ _ small in
    let f = and_parts (first_has_form k u.parts) (have_form ks (drop 1 u.parts)) form in
    let v = bind_ok (value k u) _ x e in
    let vs = bind_ok (values ks v.0.1) _ x v.2 in
    let one = one_value k u v.0 s.0 v.1 in
    let more = values_take ks v.0.1 vs.0 (and_parts _ _ s.1).1 (rw (one.rest) f.1) vs.1 in
    subst (λ (x : List Value × Unread). (u.parts ≡ flat_map value_fields x.0) × AllFit (k ∷ ks) x.0) (ok_is (v.0.0 ∷ vs.0.0, vs.0.1) x vs.2)
    (one.here ∙ ap (λ (fs : List (List ℕ)). value_fields v.0.0 ++ fs) more.0, (one.fits, more.1))

-- what is written of values that fit
pub record WritesAll (ks : List FieldKind) (vs : List Value) : Type 0 where
  pub form : have_form ks (flat_map value_fields vs) ≡ true
  pub again : (n : ℕ) → values ks (record { parts = flat_map value_fields vs; number = n }) ≡ Ok (vs, record { parts = []; number = n })
  pub clean : All IsField (flat_map value_fields vs)
  pub short : length (line_text (flat_map value_fields vs)) ≤ longest_line ks

-- a value that has no field is the last
writes_none : (k : FieldKind) (ks : List FieldKind) (v : Value) (vs : List Value) → is_last k ks ≡ true → AllFit (k ∷ ks) (v ∷ vs) → is_given v ≡ false → WritesAll (k ∷ ks) (v ∷ vs)
unfolding have_form values value
writes_none (OptionalOf low high most) [] (holds.Optional []) [] last fits none = record { form = refl; again = λ n. refl; clean = All-nil IsField; short = omega arith }
writes_none (OptionalOf low high most) [] (holds.Optional []) (v ∷ vs) last fits none = absurd fits.1
writes_none (OptionalOf low high most) (k ∷ ks) v vs last fits none = absurd (omega (arith, eqb-true (length (k ∷ ks)) 0 last))
writes_none k ks (holds.Optional []) vs last fits none = absurd fits.0
writes_none k ks v vs last fits none = absurd cc

-- a value that has one is before others
writes_one : (k : FieldKind) (ks : List FieldKind) (v : Value) (vs : List Value) → Writes k v → WritesAll ks vs → WritesAll (k ∷ ks) (v ∷ vs)
unfolding have_form values value
writes_one k ks v vs one more =
    let text = value_text v in
    let rest = flat_map value_fields vs in record {
      form = rw (one.fields, one.form, more.form) refl;
      again = λ n. rw (one.fields, given_is k text rest, spelled_again NumberFault (value_in k) text rest n v one.again, more.again n) refl;
      clean = rw (one.fields) (All-cons IsField text rest one.clean more.clean);
      short = rw (one.fields) (omega (arith, line_more text rest, one.short, more.short));
    }

pub writes_all : (ks : List FieldKind) (vs : List Value) → are_small ks ≡ true → AllFit ks vs → WritesAll ks vs
unfolding have_form values
writes_all [] [] small fits = record { form = refl; again = λ n. refl; clean = All-nil IsField; short = omega arith }
writes_all [] (v ∷ vs) small fits = absurd fits
writes_all (k ∷ ks) [] small fits = absurd fits
writes_all (k ∷ ks) (v ∷ vs) small fits =
    let s = and_parts _ _ small in
    let t = and_parts _ _ s.1 in
    elim (is_given v) as (λ b. is_given v ≡ b → WritesAll (k ∷ ks) (v ∷ vs)) [
      | true ↦ λ given. writes_one k ks v vs (writes k v s.0 fits.0 given) (writes_all ks vs t.1 fits.1)
      | false ↦ λ none. writes_none k ks v vs t.0 fits none
    ] refl

-- the values of a line
pub line_takes : (ks : List FieldKind) (u : Unread) (x : List Value × Unread) → are_small ks ≡ true → line_values ks u ≡ Ok x → (u.parts ≡ flat_map value_fields x.0) × AllFit ks x.0
unfolding line_values
line_takes ks u x small e = let form = test_ok (have_form ks u.parts) (values ks u) (Line u.number) x e in values_take ks u x small form.0 form.1

pub line_again : (ks : List FieldKind) (vs : List Value) (n : ℕ) → WritesAll ks vs
    → line_values ks (record { parts = flat_map value_fields vs; number = n }) ≡ Ok (vs, record { parts = []; number = n })
unfolding line_values
line_again ks vs n w = rw (w.form) (w.again n)
