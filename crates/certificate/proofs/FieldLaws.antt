-- Reading and writing the fields of a line undo each other.
use Rattle.std.proofs.Common.{◌≡◌, ℕ, suc, ◌+◌, ◌*◌, ◌^◌, ◌<◌, ◌≤◌, ℤ, pos, neg_ℤ, unsigned_abs, List, [], ◌∷◌, length, map, Bool, true, false, cond, bytes_eq, Option, Some, None, Result, Ok, Err, decimal, All, refl, ap, ap₂, subst, ◌∙◌, arith}
use Rattle.std.specs.Fmt.{signed_decimal}
use Rattle.std.proofs.lemmas.Int.{ints}
use Rattle.std.proofs.Math.Nat.{mul-le-mul_right}
use Rattle.std.proofs.lemmas.Fmt.{length-decimal-le}
use Rattle.std.proofs.lemmas.List.{length-append, length-map, nil_from_length}
use Rattle.std.proofs.lemmas.List.Elements.{All-cons, All-head, All-nil, All-tail, All-weaker}
use Rattle.std.proofs.lemmas.Slice.Eq.{bytes_eq-Decides}
use Rattle.plan_book.specs.declared.SheetRow.{SheetRow}
use Rattle.certificate.specs.declared.error.TextError.{TextError}
use Rattle.certificate.specs.declared.error.TextError.TheVariants.{Number}
use Rattle.certificate.specs.Unread.{Unread}
use Rattle.certificate.specs.Numbers.{natural_in, integer_in}
use Rattle.fields.specs.Numbers.{Within, Between}
use Rattle.text.specs.Texts.{line_text}
use Rattle.certificate.specs.Texts.{row_fields}
use Rattle.certificate.specs.Readers.{◌>>=◌, or_fault, Reads, ◌followed_by◌, ◌before◌, made_by, first_field, field, spelled, natural, integer, naturals_in, naturals, expected_word}
use Rattle.certificate.specs.Reading.{read_row}
use Rattle.certificate.proofs.NumberLemmas.{natural_takes}
use Rattle.certificate.proofs.Spelling.{IsField, Spells, natural_spells, integer_spells, each_takes, each_again, each_clean}

-- A reader of all fields of a line, of which there are at most so many, and what writes them undo each other; the line
-- has at most so many bytes.
pub record FieldLaw {A : Type 0} (most long : ℕ) (read : Reads A) (fields : A → List (List ℕ)) (Fits : A → Type 0) : Type 0 where
  pub takes : (u : Unread) (x : A × Unread) → read u ≡ Ok x → length u.parts ≤ most → (u.parts ≡ fields x.0) × Fits x.0
  pub again : (n : ℕ) (a : A) → Fits a → (rest : Unread) × (read (record { parts = fields a; number = n }) ≡ Ok (a, rest))
  pub clean : (a : A) → Fits a → All IsField (fields a)
  pub short : (a : A) → Fits a → length (fields a) ≤ most → length (line_text (fields a)) ≤ long

pub line_more : (x : List ℕ) (xs : List (List ℕ)) → length (line_text (x ∷ xs)) ≤ length x + 1 + length (line_text xs)
line_more x [] = omega (arith, length-append x (10 ∷ []))
line_more x (y ∷ more) = omega (arith, length-append x (32 ∷ line_text (y ∷ more)))

-- ---- steps that did not fail

pub bind_ok : {A B : Type 0} (r : Result A TextError) (f : A → Result B TextError) (y : B) → (r >>= f) ≡ Ok y → (x : A) × (r ≡ Ok x) × (f x ≡ Ok y)
bind_ok (Ok x) f y e = (x, refl, e)
bind_ok (Err d) f y e = absurd cc

pub or_ok : {A : Type 0} (o : Option A) (d : TextError) (y : A) → or_fault o d ≡ Ok y → o ≡ Some y
or_ok None d y e = absurd cc
or_ok (Some x) d y e = cc

pub test_ok : {A : Type 0} (b : Bool) (x : Result A TextError) (d : TextError) (y : A) → cond b x (Err d) ≡ Ok y → (b ≡ true) × (x ≡ Ok y)
test_ok true x d y e = (refl, e)
test_ok false x d y e = absurd cc

abbrev done : {A : Type 0} → A → Result A TextError
done x = Ok x

pub ok_is : {A : Type 0} (x y : A) → done x ≡ done y → x ≡ y
ok_is x y e = cc

-- ---- one field

-- the first field spells the value, and the others are left
pub record TakesFirst {A : Type 0} (value : List ℕ → Option A) (u : Unread) (x : A × Unread) : Type 0 where
  pub first : List ℕ
  pub here : u.parts ≡ first ∷ x.1.parts
  pub is : value first ≡ Some x.0

first_takes : (parts : List (List ℕ)) (n : ℕ) (x : List ℕ × Unread) → first_field parts n ≡ Ok x → parts ≡ x.0 ∷ x.1.parts
first_takes [] n x e = absurd cc
first_takes (f ∷ fs) n x e = ap (λ (x : List ℕ × Unread). x.0 ∷ x.1.parts) (ok_is (f, record { parts = fs; number = n }) x e)

field_takes : (u : Unread) (x : List ℕ × Unread) → field u ≡ Ok x → u.parts ≡ x.0 ∷ x.1.parts
unfolding field
field_takes u x e = first_takes u.parts u.number x e

pub spelled_takes : {A : Type 0} (fault : ℕ → TextError) (value : List ℕ → Option A) (u : Unread) (x : A × Unread) → spelled fault value u ≡ Ok x → TakesFirst value u x
spelled_takes {A} fault value u x e =
    let f = bind_ok (field u) _ x e in
    let a = bind_ok (or_fault (value f.0.0) (fault u.number)) _ x f.2 in
    subst (TakesFirst value u) (ok_is (a.0, f.0.1) x a.2) (record { first = f.0.0; here = field_takes u f.0 f.1; is = or_ok (value f.0.0) (fault u.number) a.0 a.1 })

pub spelled_again : {A : Type 0} (fault : ℕ → TextError) (value : List ℕ → Option A) (f : List ℕ) (fs : List (List ℕ)) (n : ℕ) (a : A)
    → value f ≡ Some a → spelled fault value (record { parts = f ∷ fs; number = n }) ≡ Ok (a, record { parts = fs; number = n })
unfolding field
spelled_again fault value f fs n a e = rw e refl

module _ {A : Type 0} {wide : ℕ} {value : List ℕ → Option A} {text : A → List ℕ} {Fits : A → Type 0} (fault : ℕ → TextError) (spells : Spells wide value text Fits) where
  -- the last field
  pub last_law : FieldLaw 1 (wide + 2) (spelled fault value) (λ a. text a ∷ []) Fits
  last_law = record {
    takes = λ u x e few.
        let t = spelled_takes fault value u x e in
        let v = spells.takes t.first x.0 t.is in
        let none : x.1.parts ≡ [] = nil_from_length x.1.parts (omega (arith, ap length t.here)) in
        (t.here ∙ ap₂ (λ f fs. f ∷ fs) v.0 none, v.1);
    again = λ n a fits. (record { parts = []; number = n }, spelled_again fault value (text a) [] n a (spells.again a fits));
    clean = λ a fits. All-cons IsField (text a) [] (spells.clean a fits) (All-nil IsField);
    short = λ a fits few. omega (arith, line_more (text a) [], spells.short a fits);
  }

  -- a field before others
  pub then_law : {B : Type 0} {most long : ℕ} {q : Reads B} {fields : B → List (List ℕ)} {Others : B → Type 0} → FieldLaw most long q fields Others
      → FieldLaw (suc most) (wide + 1 + long) (spelled fault value followed_by q) (λ x. text x.0 ∷ fields x.1) (λ x. Fits x.0 × Others x.1)
  then_law {q = q} {fields = fields} {Others = Others} law = record {
    takes = λ u x e few.
        let a = bind_ok (spelled fault value u) _ x e in
        let b = bind_ok (q a.0.1) _ x a.2 in
        let t = spelled_takes fault value u a.0 a.1 in
        let v = spells.takes t.first a.0.0 t.is in
        let w = law.takes a.0.1 b.0 b.1 (omega (arith, ap length t.here)) in
        subst (λ x. (u.parts ≡ text x.0.0 ∷ fields x.0.1) × (Fits x.0.0 × Others x.0.1)) (ok_is ((a.0.0, b.0.0), b.0.1) x b.2)
        (t.here ∙ ap₂ (λ f fs. f ∷ fs) v.0 w.0, (v.1, w.1));
    again = λ n x fits.
        let b = law.again n x.1 fits.1 in
        (b.0, rw (spelled_again fault value (text x.0) (fields x.1) n x.0 (spells.again x.0 fits.0), b.1) refl);
    clean = λ x fits. All-cons IsField (text x.0) (fields x.1) (spells.clean x.0 fits.0) (law.clean x.1 fits.1);
    short = λ x fits few. omega (arith, line_more (text x.0) (fields x.1), spells.short x.0 fits.0, law.short x.1 fits.1 (omega (arith, few)));
  }

-- ---- words and numbers

expected_takes : (word : List ℕ) (u : Unread) (x : Unit {0} × Unread) → expected_word word u ≡ Ok x → u.parts ≡ word ∷ x.1.parts
unfolding expected_word
expected_takes word u x e =
    let f = bind_ok (field u) _ x e in
    let t = test_ok (bytes_eq f.0.0 word) _ _ x f.2 in
    subst (λ x. u.parts ≡ word ∷ x.1.parts) (ok_is (tt, f.0.1) x t.1) (field_takes u f.0 f.1 ∙ ap (λ w. w ∷ f.0.1.parts) ((bytes_eq-Decides f.0.0 word).0 t.0))

expected_again : (word : List ℕ) (fs : List (List ℕ)) (n : ℕ) → expected_word word (record { parts = word ∷ fs; number = n }) ≡ Ok (tt, record { parts = fs; number = n })
unfolding expected_word field
expected_again word fs n = rw ((bytes_eq-Decides word word).1 refl) refl

-- a word alone
pub word_law : (word : List ℕ) → IsField word → FieldLaw 1 (length word + 2) (expected_word word) (λ _. word ∷ []) (λ _. Unit {0})
word_law word clean = record {
  takes = λ u x e few.
      let here = expected_takes word u x e in
      let none : x.1.parts ≡ [] = nil_from_length x.1.parts (omega (arith, ap length here)) in
      (here ∙ ap (λ fs. word ∷ fs) none, tt);
  again = λ n a fits. (record { parts = []; number = n }, expected_again word [] n);
  clean = λ a fits. All-cons IsField word [] clean (All-nil IsField);
  short = λ a fits few. omega (arith, line_more word []);
}

-- a word before other fields
pub before_law : {B : Type 0} {most long : ℕ} {q : Reads B} {fields : B → List (List ℕ)} {Fits : B → Type 0} (word : List ℕ) → IsField word → FieldLaw most long q fields Fits
    → FieldLaw (suc most) (length word + 1 + long) (expected_word word before q) (λ b. word ∷ fields b) Fits
before_law {q = q} {fields = fields} word clean law = record {
  takes = λ u x e few.
      let w = bind_ok (expected_word word u) _ x e in
      let here = expected_takes word u w.0 w.1 in
      let l = law.takes w.0.1 x w.2 (omega (arith, ap length here)) in
      (here ∙ ap (λ fs. word ∷ fs) l.0, l.1);
  again = λ n b fits. let l = law.again n b fits in (l.0, rw (expected_again word (fields b) n) l.1);
  clean = λ b fits. All-cons IsField word (fields b) clean (law.clean b fits);
  short = λ b fits few. omega (arith, line_more word (fields b), law.short b fits (omega (arith, few)));
}

pub natural_law : (low high : ℕ) → high < 2 ^ 64 → FieldLaw 1 22 (natural low high) (λ n. decimal n ∷ []) (Within low high)
unfolding natural
natural_law low high wide = last_law Number (natural_spells low high wide)

pub integer_law : (low high : ℤ) → ((z : ℤ) → Between low high z → unsigned_abs z < 2 ^ 63) → FieldLaw 1 22 (integer low high) (λ z. signed_decimal z ∷ []) (Between low high)
unfolding integer
integer_law low high small = last_law Number (integer_spells low high small)

numbers_short : (digits high : ℕ) (ns : List ℕ) → 0 < digits → high < 10 ^ digits → high < 2 ^ 64 → All (λ n. n ≤ high) ns → length (line_text (map decimal ns)) ≤ length ns * (digits + 1) + 1
numbers_short digits high [] some few wide fits = omega arith
numbers_short digits high (n ∷ ns) some few wide fits =
    let small = All-head (λ n. n ≤ high) n ns fits in
    omega (
      arith,
      line_more (decimal n) (map decimal ns),
      length-decimal-le digits n some (omega (arith, few))
          (omega (arith, wide)),
      numbers_short digits high ns some few wide (All-tail (λ n. n ≤ high) n ns fits),
    )

from_zero : (high : ℕ) (ns : List ℕ) → All (λ n. n ≤ high) ns → All (Within 0 high) ns
from_zero high ns fits = All-weaker (λ n. n ≤ high) (Within 0 high) (λ n h. (omega arith, h)) ns fits

pub naturals_law : (most digits high : ℕ) → 0 < digits → high < 10 ^ digits → high < 2 ^ 64 → FieldLaw most (most * (digits + 1) + 1) (naturals 0 high) (map decimal) (All (λ n. n ≤ high))
unfolding naturals
naturals_law most digits high some few wide = record {
  takes = λ u x e few.
      let ns = bind_ok (or_fault (naturals_in 0 high u.parts) (Number u.number)) _ x e in
      let s = each_takes (natural_in 0 high) decimal (Within 0 high) (natural_takes 0 high) u.parts ns.0 (or_ok (naturals_in 0 high u.parts) (Number u.number) ns.0 ns.1) in
      subst (λ (x : List ℕ × Unread). (u.parts ≡ map decimal x.0) × All (λ n. n ≤ high) x.0) (ok_is (ns.0, record { parts = []; number = u.number }) x ns.2)
      (s.are, All-weaker (Within 0 high) (λ n. n ≤ high) (λ n h. h.1) ns.0 s.fit);
  again = λ n ns fits. (record { parts = []; number = n }, rw (each_again (natural_spells 0 high wide) ns (from_zero high ns fits)) refl);
  clean = λ ns fits. each_clean (natural_spells 0 high wide) ns (from_zero high ns fits);
  short = λ ns fits count.
      let fewer : length ns ≤ most = omega (arith, count, length-map ns decimal) in
      omega (arith, numbers_short digits high ns some few wide fits, mul-le-mul_right (digits + 1) fewer);
}

-- ---- what is made of the value

pub made_takes : {A B : Type 0} (f : A → B) (r : Result (A × Unread) TextError) (y : B × Unread) → (r >>= λ x. Ok (f x.0, x.1)) ≡ Ok y → (x : A × Unread) × (r ≡ Ok x) × ((f x.0, x.1) ≡ y)
made_takes f r y e = let x = bind_ok r _ y e in (x.0, x.1, ok_is (f x.0.0, x.0.1) y x.2)

-- ---- the rows

pub small_bound : (z : ℤ) → Between (neg_ℤ (pos 4000000000)) (pos 4000000000) z → unsigned_abs z ≤ 4000000000
small_bound z h = omega (arith, ints, h.0, h.1)

pub bound_between : (z : ℤ) → unsigned_abs z ≤ 4000000000 → Between (neg_ℤ (pos 4000000000)) (pos 4000000000) z
bound_between z h = (omega (arith, ints), omega (arith, ints))

pub bound_spells : Spells 20 (integer_in (neg_ℤ (pos 4000000000)) (pos 4000000000)) signed_decimal (Between (neg_ℤ (pos 4000000000)) (pos 4000000000))
bound_spells = integer_spells (neg_ℤ (pos 4000000000)) (pos 4000000000) (λ z h. omega (arith, ints, h.0, h.1))

-- a row in range, however many weights it has
pub record RowFits (row : SheetRow) : Type 0 where
  pub key : row.key ≤ 9223372036854775807
  pub bound : unsigned_abs row.bound ≤ 4000000000
  pub weights : All (λ w. w ≤ 1048576) row.weights

-- at most so many weights
pub row_law : (moves : ℕ)
    → FieldLaw (2 + moves) (21 + (21 + (moves * 8 + 1)))
    (made_by read_row (natural 0 9223372036854775807 followed_by integer (neg_ℤ (pos 4000000000)) (pos 4000000000) followed_by naturals 0 1048576))
    row_fields RowFits
unfolding natural integer
row_law moves =
    let law = then_law Number (natural_spells 0 9223372036854775807 (omega arith)) (then_law Number bound_spells (naturals_law moves 7 1048576 (omega arith) (omega arith) (omega arith))) in
    record {
      takes = λ u x e few.
          let m = made_takes read_row _ x e in
          let t = law.takes u m.0 m.1 (omega (arith, few)) in
          subst (λ (x : SheetRow × Unread). (u.parts ≡ row_fields x.0) × RowFits x.0) m.2 (t.0, record { key = t.1.0.1; bound = small_bound m.0.0.1.0 t.1.1.0; weights = t.1.1.1 });
      again = λ n row fits.
          let a = law.again n (row.key, (row.bound, row.weights)) ((omega arith, fits.key), (bound_between row.bound fits.bound, fits.weights)) in
          (a.0, rw a.1 refl);
      clean = λ row fits. law.clean (row.key, (row.bound, row.weights)) ((omega arith, fits.key), (bound_between row.bound fits.bound, fits.weights));
      short = λ row fits few. law.short (row.key, (row.bound, row.weights)) ((omega arith, fits.key), (bound_between row.bound fits.bound, fits.weights)) (omega (arith, few));
    }
