-- Values, and how a field spells them.
use Rattle.std.proofs.Common.{◌≡◌, ℕ, suc, ◌+◌, ◌*◌, ◌^◌, ◌<◌, ◌≤◌, ℤ, pos, negsuc, ◌≤ℤ◌, int_lt, unsigned_abs, List, [], ◌∷◌, length, map, Bool, true, false, not, cond, ◌&&◌, ◌==◌, codes, bytes_eq, find, leb, Option, Some, None, option_map, decimal, All, refl, sym, ap, ap₂, subst, ◌∙◌, arith, leb-true, le-leb}
use Rattle.std.specs.Prelude.{option_and_then}
use Rattle.std.specs.Fmt.{signed_decimal}
use Rattle.std.specs.Int.Signed.{mag}
use Rattle.std.specs.List.{list_all, slice_split, join_with_byte}
use Rattle.std.proofs.lemmas.Int.{ints}
use Rattle.std.proofs.lemmas.Bool.{and_parts, eq-eqb}
use Rattle.std.proofs.lemmas.Option.{cond_some, option_and_then_some}
use Rattle.std.proofs.lemmas.Fmt.{decimal_is_IsNumeral, length-decimal-le, length_signed_le}
use Rattle.std.proofs.lemmas.Str.Parse.{digit_at}
use Rattle.std.proofs.lemmas.List.{length-map, length-append}
use Rattle.std.proofs.lemmas.List.Elements.{All-nil, All-cons, All-head, All-tail, All-append, All-weaker, All-from_get_or, All-map}
use Rattle.std.proofs.lemmas.List.Splits.{slice_split_at, slice_split_none, join_with_byte-slice_split}
use Rattle.std.proofs.lemmas.Slice.Eq.{bytes_eq-Decides}
use Rattle.certificate.specs.declared.report.Outcome.{Outcome}
use Rattle.certificate.specs.declared.report.Outcome.TheVariants.{Closed, Settled, Spent, Full, Stopped}
use Rattle.text.specs.Texts.{list_text}
use Rattle.certificate.specs.Numbers.{natural_in, integer_in}
use Rattle.fields.specs.Numbers.{Within, Between, IsByteList, IsNumberList}
use Rattle.certificate.specs.Readers.{each_in, has_parts, list_parts, list_in}
use Rattle.certificate.specs.Spellings.{joined_list}
use Rattle.certificate.specs.Texts.{outcome_word}
use Rattle.certificate.specs.Versions.{has_outcome}
use Rattle.certificate.specs.Reading.{outcome_of, outcome_in}
use Rattle.certificate.proofs.NumberLemmas.{neither, natural_takes, natural_again, signed_takes, signed_again}

-- some bytes, none of them a space or a line feed
abbrev pub IsField : List ℕ → Type 0
IsField f = (0 < length f) × All (λ b. 33 ≤ b) f

-- Reading and writing a value undo each other where it fits, and its text has at most so many bytes.
pub record Spells {A : Type 0} (most : ℕ) (value : List ℕ → Option A) (text : A → List ℕ) (Fits : A → Type 0) : Type 0 where
  pub takes : (s : List ℕ) (a : A) → value s ≡ Some a → (s ≡ text a) × Fits a
  pub again : (a : A) → Fits a → value (text a) ≡ Some a
  pub clean : (a : A) → Fits a → IsField (text a)
  pub short : (a : A) → Fits a → length (text a) ≤ most

-- ---- numbers

digits_from : (n : ℕ) → n < 2 ^ 64 → (0 < length (decimal n)) × All (λ b. 48 ≤ b) (decimal n)
digits_from n small =
    let d = (decimal_is_IsNumeral n small).0 in
    (d.0, All-from_get_or (λ b. 48 ≤ b) (decimal n) 0 (λ i lt. (digit_at (decimal n) i d.1 lt).0))

decimal_field : (n : ℕ) → n < 2 ^ 64 → IsField (decimal n)
decimal_field n small = let d = digits_from n small in (d.0, All-weaker (λ b. 48 ≤ b) (λ b. 33 ≤ b) (λ b h. omega arith) (decimal n) d.1)

pub natural_spells : (low high : ℕ) → high < 2 ^ 64 → Spells 20 (natural_in low high) decimal (Within low high)
natural_spells low high wide = record {
  takes = natural_takes low high;
  again = λ n fits. natural_again low high n wide fits;
  clean = λ n fits. decimal_field n (omega (arith, fits.1));
  short = λ n fits. length-decimal-le 20 n (omega arith) (omega (arith, fits.1)) (omega (arith, fits.1));
}

at_least : (low z : ℤ) → int_lt z low ≡ false → low ≤ℤ z
at_least low z h = grind (arith, ints)

not_below : (low z : ℤ) → low ≤ℤ z → int_lt z low ≡ false
not_below low z h = grind (arith, ints)

signed_field : (z : ℤ) → unsigned_abs z < 2 ^ 63 → IsField (signed_decimal z)
signed_field (pos n) small = decimal_field n (omega arith)
signed_field (negsuc n) small = (omega arith, All-cons (λ b. 33 ≤ b) 45 (decimal (suc n)) (omega arith) (decimal_field (suc n) (omega arith)).1)

mag_less : (z : ℤ) → mag z ≤ unsigned_abs z
mag_less (pos n) = omega arith
mag_less (negsuc n) = omega arith

pub integer_takes : (low high : ℤ) (s : List ℕ) (z : ℤ) → integer_in low high s ≡ Some z → (s ≡ signed_decimal z) × Between low high z
unfolding integer_in
integer_takes low high s z e =
    option_and_then_some _ _ z e (λ y is h.
    let w = neither (int_lt y low) (int_lt high y) y z h in
    ((signed_takes s y is).0 ∙ ap signed_decimal w.0, subst (Between low high) w.0 (at_least low y w.1, at_least y high w.2)))

pub integer_spells : (low high : ℤ) → ((z : ℤ) → Between low high z → unsigned_abs z < 2 ^ 63) → Spells 20 (integer_in low high) signed_decimal (Between low high)
unfolding integer_in
integer_spells low high small = record {
  takes = integer_takes low high;
  again = λ z fits. rw (signed_again z (small z fits), not_below low z fits.0, not_below z high fits.1) refl;
  clean = λ z fits. signed_field z (small z fits);
  short = λ z fits. length_signed_le 19 z (omega (arith, mag_less z, small z fits)) (omega (arith, mag_less z, small z fits));
}

-- ---- words

pub find_passes : {A : Type 0} (p : A → Bool) (xs : List A) (a : A) → find p xs ≡ Some a → p a ≡ true
find_passes p [] a e = absurd cc
find_passes p (x ∷ xs) a e =
    elim (p x) as (λ t. p x ≡ t → cond t (Some x) (find p xs) ≡ Some a → p a ≡ true) [
      | true ↦ λ is h. let same : x ≡ a = cc in subst (λ y. p y ≡ true) same is
      | false ↦ λ is h. find_passes p xs a h
    ] refl e

pub clean_word : (w : List ℕ) → (not (length w == 0) && list_all (λ b. leb 33 b) w) ≡ true → IsField w
clean_word w e = let parts = and_parts (not (length w == 0)) (list_all (λ b. leb 33 b) w) e in (some w parts.0, above w parts.1)
  where
    some : (w : List ℕ) → not (length w == 0) ≡ true → 0 < length w
    some [] e = absurd cc
    some (b ∷ bs) e = omega arith

    above : (w : List ℕ) → list_all (λ b. leb 33 b) w ≡ true → All (λ b. 33 ≤ b) w
    above [] e = All-nil (λ b. 33 ≤ b)
    above (b ∷ bs) e = let parts = and_parts (leb 33 b) (list_all (λ b. leb 33 b) bs) e in All-cons (λ b. 33 ≤ b) b bs (leb-true _ _ parts.0) (above bs parts.1)

abbrev pub is_word : List ℕ → Bool
is_word w = (not (length w == 0) && list_all (λ b. leb 33 b) w) && leb (length w) 20

-- a word for each value, all of them different
pub word_spells : {A : Type 0} (all : List A) (word : A → List ℕ) → ((a : A) → (find (λ k. bytes_eq (word a) (word k)) all ≡ Some a) × (is_word (word a) ≡ true))
    → Spells 20 (λ w. find (λ k. bytes_eq w (word k)) all) word (λ _. Unit {0})
word_spells all word each = record {
  takes = λ w a e. ((bytes_eq-Decides w (word a)).0 (find_passes (λ k. bytes_eq w (word k)) all a e), tt);
  again = λ a u. (each a).0;
  clean = λ a u. clean_word (word a) (and_parts _ _ (each a).1).0;
  short = λ a u. leb-true _ _ (and_parts _ _ (each a).1).1;
}

-- the same of the values that pass alone
pub passing_spells : {A : Type 0} (value : List ℕ → Option A) (word : A → List ℕ) (passes : A → Bool) → Spells 20 value word (λ _. Unit {0})
    → Spells 20 (λ w. option_and_then (λ a. cond (passes a) (Some a) None) (value w)) word (λ a. passes a ≡ true)
passing_spells value word passes all = record {
  takes = λ w a e. option_and_then_some _ _ a e (λ other is h.
      let same = cond_some (passes other) other a h in
      ((all.takes w other is).0 ∙ ap word same.1, ap passes (sym same.1) ∙ same.0));
  again = λ a fits. rw (all.again a tt, fits) refl;
  clean = λ a fits. all.clean a tt;
  short = λ a fits. all.short a tt;
}

outcome_words : Spells 20 outcome_of outcome_word (λ _. Unit {0})
unfolding outcome_of
outcome_words = word_spells (Closed ∷ Settled ∷ Spent ∷ Full ∷ Stopped ∷ []) outcome_word each
  where
    each : (o : Outcome) → (outcome_of (outcome_word o) ≡ Some o) × (is_word (outcome_word o) ≡ true)
    each Closed = (refl, refl)
    each Settled = (refl, refl)
    each Spent = (refl, refl)
    each Full = (refl, refl)
    each Stopped = (refl, refl)

-- the outcome of a word, in a report of the version
pub outcome_spells : (version : ℕ) → Spells 20 (outcome_in version) outcome_word (λ o. has_outcome version o ≡ true)
unfolding outcome_in
outcome_spells version = passing_spells outcome_of outcome_word (has_outcome version) outcome_words

-- ---- values one after the other

pub option_map_some : {A B : Type 0} (f : A → B) (o : Option A) (y : B) → option_map f o ≡ Some y → (x : A) × (o ≡ Some x) × (f x ≡ y)
option_map_some f None y e = absurd cc
option_map_some f (Some x) y e = (x, refl, cc)

-- values that fields spell
pub record Spelled {A : Type 0} (text : A → List ℕ) (Fits : A → Type 0) (fs : List (List ℕ)) (xs : List A) : Type 0 where
  pub are : fs ≡ map text xs
  pub fit : All Fits xs

pub each_takes : {A : Type 0} (value : List ℕ → Option A) (text : A → List ℕ) (Fits : A → Type 0) → ((s : List ℕ) (a : A) → value s ≡ Some a → (s ≡ text a) × Fits a)
    → (fs : List (List ℕ)) (xs : List A) → each_in value fs ≡ Some xs → Spelled text Fits fs xs
unfolding each_in
each_takes {A} value text Fits takes [] xs e = let none : ◌≡◌ {A = List A} [] xs = cc in subst (Spelled text Fits []) none (record { are = refl; fit = All-nil Fits })
each_takes value text Fits takes (f ∷ fs) xs e =
    option_and_then_some _ _ xs e (λ x is h.
    let here = takes f x is in
    let more = option_map_some (λ xs. x ∷ xs) (each_in value fs) xs h in
    let others = each_takes value text Fits takes fs more.0 more.1 in
    subst (Spelled text Fits (f ∷ fs)) more.2 (record { are = ap₂ (λ f fs. f ∷ fs) here.0 others.are; fit = All-cons Fits x more.0 here.1 others.fit }))

module _ {A : Type 0} {wide : ℕ} {value : List ℕ → Option A} {text : A → List ℕ} {Fits : A → Type 0} (spells : Spells wide value text Fits) where
  pub each_again : (xs : List A) → All Fits xs → each_in value (map text xs) ≡ Some xs
  unfolding each_in
  each_again [] fit = refl
  each_again (x ∷ xs) fit = rw (spells.again x (All-head Fits x xs fit), each_again xs (All-tail Fits x xs fit)) refl

  pub each_clean : (xs : List A) → All Fits xs → All IsField (map text xs)
  each_clean xs fit = All-map IsField text xs (All-weaker Fits (λ x. IsField (text x)) spells.clean xs fit)

  -- the same, with the text and the range told otherwise
  pub told_spells : (t : A → List ℕ) (G : A → Type 0) → ((a : A) → Fits a → (text a ≡ t a) × G a) → ((a : A) → G a → Fits a) → Spells wide value t G
  told_spells t G forth back = record {
    takes = λ s a e.
        let v = spells.takes s a e in
        let w = forth a v.1 in
        (v.0 ∙ w.0, w.1);
    again = λ a fits. let f = back a fits in subst (λ s. value s ≡ Some a) (forth a f).0 (spells.again a f);
    clean = λ a fits. let f = back a fits in subst IsField (forth a f).0 (spells.clean a f);
    short = λ a fits. let f = back a fits in omega (arith, ap length (forth a f).0, spells.short a f);
  }

-- a list of pieces with a byte between each two

pub All-join : (P : ℕ → Type 0) (c : ℕ) (parts : List (List ℕ)) → P c → All (All P) parts → All P (join_with_byte c parts)
All-join P c [] at fit = All-nil P
All-join P c (x ∷ []) at fit = All-head (All P) x [] fit
All-join P c (x ∷ y ∷ more) at fit =
    All-append P x (c ∷ join_with_byte c (y ∷ more)) (All-head (All P) x (y ∷ more) fit)
    (All-cons P c (join_with_byte c (y ∷ more)) at (All-join P c (y ∷ more) at (All-tail (All P) x (y ∷ more) fit)))

differs : (b c : ℕ) → c < b → (b == c) ≡ false
differs b c h = grind arith

pub without : (c low : ℕ) (x : List ℕ) → c < low → All (λ b. low ≤ b) x → All (λ b. (b == c) ≡ false) x
without c low x lt fit = All-weaker (λ b. low ≤ b) (λ b. (b == c) ≡ false) (λ b h. differs b c (omega arith)) x fit

-- the pieces are found again where each of their bytes is greater than the one between them
pub split-join : (c low : ℕ) (x : List ℕ) (xs : List (List ℕ)) → c < low → All (All (λ b. low ≤ b)) (x ∷ xs) → slice_split (λ b. b == c) (join_with_byte c (x ∷ xs)) ≡ x ∷ xs
split-join c low x [] lt fit = slice_split_none (λ b. b == c) x (without c low x lt (All-head (All (λ b. low ≤ b)) x [] fit))
split-join c low x (y ∷ ys) lt fit =
    slice_split_at (λ b. b == c) x c (join_with_byte c (y ∷ ys)) (without c low x lt (All-head (All (λ b. low ≤ b)) x (y ∷ ys) fit)) (eq-eqb c c refl)
    ∙ ap (λ (parts : List (List ℕ)). x ∷ parts) (split-join c low y ys lt (All-tail (All (λ b. low ≤ b)) x (y ∷ ys) fit))

-- ---- lists

pub has_parts-bounds : (least most : ℕ) (parts : List (List ℕ)) → has_parts least most parts ≡ true → Within least most (length parts)
unfolding has_parts
has_parts-bounds least most parts e =
    let both = and_parts (leb least (length parts)) (leb (length parts) most) ((and_parts _ _ e).1) in
    (leb-true _ _ both.0, leb-true _ _ both.1)

are_filled : (parts : List (List ℕ)) → All IsField parts → list_all (λ part. not (length part == 0)) parts ≡ true
are_filled [] fit = refl
are_filled (x ∷ xs) fit = let some : (length x == 0) ≡ false = differs (length x) 0 (All-head IsField x xs fit).0 in rw (some, are_filled xs (All-tail IsField x xs fit)) refl

pub has_parts-true : (least most : ℕ) (parts : List (List ℕ)) → All IsField parts → Within least most (length parts) → has_parts least most parts ≡ true
unfolding has_parts
has_parts-true least most parts fit size = rw (are_filled parts fit, le-leb _ _ size.0, le-leb _ _ size.1) refl

-- a part of a list: no byte of it is a comma, and it is not just a dash
abbrev IsPart : List ℕ → Type 0
IsPart p = All (λ b. 45 ≤ b) p × (p ≡ codes "-" → ⊥)

some_joined : (c : ℕ) (x : List ℕ) (xs : List (List ℕ)) → 0 < length x → 0 < length (join_with_byte c (x ∷ xs))
some_joined c x [] some = some
some_joined c x (y ∷ ys) some = omega (arith, length-append x (c ∷ join_with_byte c (y ∷ ys)))

some_parts : (parts : List (List ℕ)) → 0 < length parts → join_with_byte 44 parts ≡ joined_list parts
some_parts [] some = absurd (omega arith)
some_parts (x ∷ xs) some = refl

parts_again : (x : List ℕ) (xs : List (List ℕ)) → All IsPart (x ∷ xs) → slice_split (λ b. b == 44) (join_with_byte 44 (x ∷ xs)) ≡ x ∷ xs
parts_again x xs fit = split-join 44 45 x xs (omega arith) (All-weaker IsPart (All (λ b. 45 ≤ b)) (λ p h. h.0) (x ∷ xs) fit)

-- no list of parts is spelled as the empty one
no_dash : (x : List ℕ) (xs : List (List ℕ)) → All IsPart (x ∷ xs) → bytes_eq (join_with_byte 44 (x ∷ xs)) (codes "-") ≡ false
no_dash x xs fit =
    let text = join_with_byte 44 (x ∷ xs) in
    elim (bytes_eq text (codes "-")) as (λ t. bytes_eq text (codes "-") ≡ t → t ≡ false) [
      | true ↦ λ is.
          let same : x ∷ xs ≡ codes "-" ∷ [] = sym (parts_again x xs fit) ∙ ap (slice_split (λ b. b == 44)) ((bytes_eq-Decides text (codes "-")).0 is) in
          absurd ((All-head IsPart (codes "-") [] (subst (All IsPart) same fit)).1 refl)
      | false ↦ λ is. refl
    ] refl

list_parts_takes : (most : ℕ) (s : List ℕ) (parts : List (List ℕ)) → list_parts most s ≡ Some parts → (s ≡ joined_list parts) × length parts ≤ most
unfolding list_parts
list_parts_takes most s parts e =
    let split = slice_split (λ b. b == 44) s in
    elim (bytes_eq s (codes "-")) as (λ t. bytes_eq s (codes "-") ≡ t → cond t (Some []) (cond (has_parts 1 most split) (Some split) None) ≡ Some parts
    → (s ≡ joined_list parts) × length parts ≤ most) [
      | true ↦ λ is h.
          let none : ◌≡◌ {A = List (List ℕ)} [] parts = cc in
          subst (λ parts. (s ≡ joined_list parts) × length parts ≤ most) none ((bytes_eq-Decides s (codes "-")).0 is, omega arith)
      | false ↦ λ is h.
          let form = cond_some (has_parts 1 most split) split parts h in
          let size = has_parts-bounds 1 most split form.0 in
          subst (λ parts. (s ≡ joined_list parts) × length parts ≤ most) form.1 (sym (join_with_byte-slice_split 44 s) ∙ some_parts split (omega (arith, size.0)), size.1)
    ] refl e

list_parts_again : (most : ℕ) (parts : List (List ℕ)) → length parts ≤ most → All IsField parts → All IsPart parts → list_parts most (joined_list parts) ≡ Some parts
unfolding list_parts
list_parts_again most [] few clean fit = refl
list_parts_again most (x ∷ xs) few clean fit = rw (no_dash x xs fit, parts_again x xs fit, has_parts-true 1 most (x ∷ xs) clean (omega arith, few)) refl

joined_clean : (parts : List (List ℕ)) → All IsField parts → IsField (joined_list parts)
joined_clean [] clean = clean_word (codes "-") refl
joined_clean (x ∷ xs) clean = (
  some_joined 44 x xs (All-head IsField x xs clean).0,
  All-join (λ b. 33 ≤ b) 44 (x ∷ xs) (omega arith) (All-weaker IsField (All (λ b. 33 ≤ b)) (λ f h. h.1) (x ∷ xs) clean),
)

join_short : (x : List ℕ) (xs : List (List ℕ)) → All (λ p. length p ≤ 20) (x ∷ xs) → length (join_with_byte 44 (x ∷ xs)) ≤ length (x ∷ xs) * 21
join_short x [] fit = omega (arith, All-head (λ p. length p ≤ 20) x [] fit)
join_short x (y ∷ ys) fit =
    omega (
      arith,
      length-append x (44 ∷ join_with_byte 44 (y ∷ ys)),
      All-head (λ p. length p ≤ 20) x (y ∷ ys) fit,
      join_short y ys (All-tail (λ p. length p ≤ 20) x (y ∷ ys) fit),
    )

joined_short : (parts : List (List ℕ)) → All (λ p. length p ≤ 20) parts → length (joined_list parts) ≤ length parts * 21 + 1
joined_short [] fit = omega arith
joined_short (x ∷ xs) fit = omega (arith, join_short x xs fit)

pub list_takes : {A : Type 0} (value : List ℕ → Option A) (text : A → List ℕ) (Fits : A → Type 0) → ((s : List ℕ) (a : A) → value s ≡ Some a → (s ≡ text a) × Fits a)
    → (most : ℕ) (s : List ℕ) (xs : List A) → list_in value most s ≡ Some xs → (s ≡ joined_list (map text xs)) × ((length xs ≤ most) × All Fits xs)
unfolding list_in
list_takes value text Fits takes most s xs e =
    option_and_then_some _ _ xs e (λ parts is h.
    let p = list_parts_takes most s parts is in
    let t = each_takes value text Fits takes parts xs h in
    (p.0 ∙ ap joined_list t.are, (omega (arith, p.1, ap length t.are, length-map xs text), t.fit)))

-- lists of values whose texts are parts
pub list_law : {A : Type 0} {value : List ℕ → Option A} {text : A → List ℕ} {Fits : A → Type 0} → Spells 20 value text Fits → ((a : A) → Fits a → IsPart (text a))
    → (most : ℕ) → Spells (most * 21 + 1) (list_in value most) (λ xs. joined_list (map text xs)) (λ xs. (length xs ≤ most) × All Fits xs)
unfolding list_in
list_law {value = value} {text} {Fits} spells part most = record {
  takes = list_takes value text Fits spells.takes most;
  again = λ xs fits.
      let parts = All-map IsPart text xs (All-weaker Fits (λ x. IsPart (text x)) part xs fits.1) in
      rw (list_parts_again most (map text xs) (omega (arith, fits.0, length-map xs text)) (each_clean spells xs fits.1) parts) (each_again spells xs fits.1);
  clean = λ xs fits. joined_clean (map text xs) (each_clean spells xs fits.1);
  short = λ xs fits.
      let short = All-map (λ p. length p ≤ 20) text xs (All-weaker Fits (λ x. length (text x) ≤ 20) spells.short xs fits.1) in
      omega (arith, joined_short (map text xs) short, length-map xs text, fits.0);
}

decimal_part : (n : ℕ) → n < 2 ^ 64 → IsPart (decimal n)
decimal_part n small =
    let digits = (digits_from n small).1 in
    (All-weaker (λ b. 48 ≤ b) (λ b. 45 ≤ b) (λ b h. omega arith) (decimal n) digits, λ e. absurd (omega (arith, All-head (λ b. 48 ≤ b) 45 [] (subst (All (λ b. 48 ≤ b)) e digits))))

signed_part : (z : ℤ) → unsigned_abs z < 2 ^ 63 → IsPart (signed_decimal z)
signed_part (pos n) small = decimal_part n (omega arith)
signed_part (negsuc n) small = (
  All-cons (λ b. 45 ≤ b) 45 (decimal (suc n)) (omega arith) (decimal_part (suc n) (omega arith)).0,
  λ e. omega (arith, ap length e, (digits_from (suc n) (omega arith)).0),
)

bytes_text : (ns : List ℕ) → joined_list (map decimal ns) ≡ list_text ns
bytes_text [] = refl
bytes_text (n ∷ ns) = refl

pub list_spells : (most : ℕ) → Spells (most * 21 + 1) (list_in (natural_in 0 255) most) list_text (IsByteList most)
list_spells most =
    told_spells (list_law (natural_spells 0 255 (omega arith)) (λ n h. decimal_part n (omega (arith, h.1))) most) list_text (IsByteList most)
    (λ ns fits. (bytes_text ns, record { few = fits.0; small = All-weaker (Within 0 255) (λ n. n ≤ 255) (λ n h. h.1) ns fits.1 }))
    (λ ns fits. (fits.few, All-weaker (λ n. n ≤ 255) (Within 0 255) (λ n h. (omega arith, h)) ns fits.small))

pub numbers_take : (low high : ℤ) (most : ℕ) (s : List ℕ) (zs : List ℤ) → list_in (integer_in low high) most s ≡ Some zs → IsNumberList low high most zs
numbers_take low high most s zs e =
    let t = list_takes (integer_in low high) signed_decimal (Between low high) (integer_takes low high) most s zs e in
    record { few = t.1.0; within = t.1.1 }

pub numbers_spells : (low high : ℤ) (most : ℕ) → ((z : ℤ) → Between low high z → unsigned_abs z < 2 ^ 63)
    → Spells (most * 21 + 1) (list_in (integer_in low high) most) (λ zs. joined_list (map signed_decimal zs)) (IsNumberList low high most)
numbers_spells low high most small =
    told_spells (list_law (integer_spells low high small) (λ z fits. signed_part z (small z fits)) most) (λ zs. joined_list (map signed_decimal zs)) (IsNumberList low high most)
    (λ zs fits. (refl, record { few = fits.0; within = fits.1 }))
    (λ zs fits. (fits.few, fits.within))
