-- Numbers and how they are written.
use Rattle.std.proofs.Common.{◌≡◌, ℕ, zero, suc, ◌+◌, ◌-◌, ◌*◌, ◌^◌, ◌<◌, ◌≤◌, ℤ, pos, negsuc, neg_ℤ, unsigned_abs, List, [], ◌∷◌, length, take, drop, get_or, Bool, true, false, not, ◌&&◌, ◌||◌, ◌==◌, cond, bytes_eq, ltb, take_all, decimal, Option, Some, None, option_map, SomeIff, refl, sym, ap, subst, ◌∙◌, arith, le-ltb, lt-ltb, ltb-true, ltb-false}
use Rattle.std.specs.Int.{IsInRange}
use Rattle.std.specs.Fmt.{signed_decimal}
use Rattle.std.specs.Str.Parse.{AllDigits, digits_value, signed_digits_value}
use Rattle.std.proofs.lemmas.Bool.{and_parts}
use Rattle.std.proofs.lemmas.Option.{cond_some, option_and_then_some}
use Rattle.std.proofs.lemmas.Fmt.{decimal_is_IsNumeral, decimal_digit, decimal_nonempty, first_decimal, decimal-digits_value}
use Rattle.std.proofs.lemmas.Int.Digits.{digits_value_more}
use Rattle.std.proofs.lemmas.Slice.Eq.{bytes_eq-Decides}
use Rattle.std.proofs.lemmas.Str.{digit_value_digit}
use Rattle.std.proofs.lemmas.Str.Parse.{numerals_by_value, tells_digits, tells_by_index, digits_value-take-le, digit_at}
use Rattle.certificate.specs.Numbers.{numeral_in, natural_in, signed_in}
use Rattle.fields.specs.Numbers.{Within}

-- ---- digits

-- the number that one more digit makes
pub digits_value-more : (ds : List ℕ) (i n : ℕ) → i < length ds → n ≡ digits_value 10 (take i ds) → IsInRange 48 57 (get_or ds i 0) → n * 10 + (get_or ds i 0 - 48) ≡ digits_value 10 (take (i + 1) ds)
digits_value-more ds i n lt is digit = omega (arith, digits_value_more 10 ds i lt, digit_value_digit (get_or ds i 0) digit)

-- no later digit makes the number smaller
pub digits_value-ge : (ds : List ℕ) (i n : ℕ) → i < length ds → n ≡ digits_value 10 (take i ds) → IsInRange 48 57 (get_or ds i 0) → n * 10 + (get_or ds i 0 - 48) ≤ digits_value 10 ds
digits_value-ge ds i n lt is digit = omega (arith, digits_value-more ds i n lt is digit, digits_value-take-le 10 ds (i + 1) (omega arith))

pub are_digits : (ds : List ℕ) → ((k : ℕ) → k < length ds → IsInRange 48 57 (get_or ds k 0)) → AllDigits 10 ds
are_digits ds each = (numerals_by_value _ tells_by_index).to ds each

-- ---- what is written

written_test : (s t : List ℕ) (fits : Bool) → s ≡ t → fits ≡ true → (bytes_eq s t && fits) ≡ true
written_test s t fits same fit = rw ((bytes_eq-Decides s t).1 same, fit) refl

written_parts : (s t : List ℕ) (fits : Bool) → (bytes_eq s t && fits) ≡ true → (s ≡ t) × (fits ≡ true)
written_parts s t fits e = let parts = and_parts (bytes_eq s t) fits e in ((bytes_eq-Decides s t).0 parts.0, parts.1)

cond_none : {A : Type 0} (b : Bool) (x : A) → (b ≡ true → ⊥) → cond b (Some x) None ≡ None
cond_none true x never = absurd (never refl)
cond_none false x never = refl

-- ---- natural numbers

pub number_takes : (s : List ℕ) (n : ℕ) → numeral_in s ≡ Some n → (s ≡ decimal n) × n < 2 ^ 64
unfolding numeral_in
number_takes s n e =
    let v = digits_value 10 s in
    let found = cond_some (bytes_eq s (decimal v) && ltb v (2 ^ 64)) v n e in
    let parts = written_parts s (decimal v) (ltb v (2 ^ 64)) found.0 in
    (parts.0 ∙ ap decimal found.1, rw (← found.1) (ltb-true _ _ parts.1))

pub number_again : (n : ℕ) → n < 2 ^ 64 → numeral_in (decimal n) ≡ Some n
unfolding numeral_in
number_again n small =
    rw ((decimal_is_IsNumeral n small).1, written_test (decimal n) (decimal n) (ltb n (2 ^ 64)) refl (lt-ltb _ _ small)) refl

pub number_none : (s : List ℕ) → ((n : ℕ) → n < 2 ^ 64 → s ≡ decimal n → ⊥) → numeral_in s ≡ None
unfolding numeral_in
number_none s never = cond_none _ _ (λ e. let parts = written_parts s _ _ e in never (digits_value 10 s) (ltb-true _ _ parts.1) parts.0)

abbrev is_plain : List ℕ → Bool
is_plain s = not (length s == 0) && (not (get_or s 0 0 == 48) || length s == 1)

plain_front : (ds : List ℕ) → 0 < length ds → 48 < get_or ds 0 0 → is_plain ds ≡ true
plain_front [] some above = absurd (omega arith)
plain_front (d ∷ ds) some above = grind arith

is_plain-decimal : (n : ℕ) → n < 2 ^ 64 → is_plain (decimal n) ≡ true
is_plain-decimal zero small = rw (decimal_digit 0 (omega arith)) refl
is_plain-decimal (suc n) small = plain_front (decimal (suc n)) (decimal_nonempty (suc n) small) (first_decimal (suc n) (omega arith) small)

some_byte : (ds : List ℕ) → is_plain ds ≡ true → 0 < length ds
some_byte [] plain = absurd cc
some_byte (d ∷ ds) plain = omega arith

lone_zero : (ds : List ℕ) → is_plain ds ≡ true → get_or ds 0 0 ≡ 48 → length ds ≡ 1
lone_zero [] plain e = absurd cc
lone_zero (d ∷ ds) plain e = grind arith

pub number-not_plain : (s : List ℕ) → is_plain s ≡ false → numeral_in s ≡ None
number-not_plain s e = number_none s (λ n small same. absurd (let p = is_plain-decimal n small in let q = rw (← same) at p in cc))

pub number-digits : (s : List ℕ) (r : Option ℕ) → is_plain s ≡ true → SomeIff r (AllDigits 10 s × digits_value 10 s < 2 ^ 64) (digits_value 10 s) → r ≡ numeral_in s
unfolding numeral_in
number-digits s None plain never = sym (number_none s (λ n small same. let d = decimal_is_IsNumeral n small in never (rw same (d.0.1, omega (arith, d.1)))))
number-digits s (Some n) plain is =
    let same = decimal-digits_value (numerals_by_value _ tells_digits) s is.0.0 (some_byte s plain) (lone_zero s plain) is.0.1 in
    rw (written_test s (decimal (digits_value 10 s)) (ltb (digits_value 10 s) (2 ^ 64)) (sym same) (lt-ltb _ _ is.0.1)) (ap (λ (m : ℕ). Some m) is.1)

-- ---- from low to high

pub neither : {A : Type 0} (a b : Bool) (x y : A) → cond (a || b) None (Some x) ≡ Some y → (x ≡ y) × (a ≡ false) × (b ≡ false)
neither true b x y e = absurd cc
neither false true x y e = absurd cc
neither false false x y e = (cc, refl, refl)

pub natural_takes : (low high : ℕ) (s : List ℕ) (n : ℕ) → natural_in low high s ≡ Some n → (s ≡ decimal n) × Within low high n
unfolding natural_in
natural_takes low high s n e = option_and_then_some _ _ n e (λ m is h.
    let w = neither (ltb m low) (ltb high m) m n h in
    ((number_takes s m is).0 ∙ ap decimal w.0, (rw (← w.0) (ltb-false _ _ w.1), rw (← w.0) (ltb-false _ _ w.2))))

pub natural_again : (low high n : ℕ) → high < 2 ^ 64 → Within low high n → natural_in low high (decimal n) ≡ Some n
unfolding natural_in
natural_again low high n wide fits = rw (number_again n (omega (arith, fits.1)), le-ltb n low fits.0, le-ltb high n fits.1) refl

-- ---- whole numbers

first_digit : (n : ℕ) → n < 2 ^ 64 → 48 ≤ get_or (decimal n) 0 0
first_digit n small = let d = (decimal_is_IsNumeral n small).0 in (digit_at (decimal n) 0 d.1 d.0).0

value_no_sign : (ds : List ℕ) → 48 ≤ get_or ds 0 0 → signed_digits_value 10 ds ≡ pos (digits_value 10 ds)
value_no_sign ds above =
    let minus : (get_or ds 0 0 == 45) ≡ false = grind arith in
    let plus : (get_or ds 0 0 == 43) ≡ false = grind arith in
    rw (minus, plus) refl

signed_value : (z : ℤ) → unsigned_abs z < 2 ^ 63 → signed_digits_value 10 (signed_decimal z) ≡ z
signed_value (pos n) small = value_no_sign (decimal n) (first_digit n (omega arith)) ∙ ap pos (decimal_is_IsNumeral n (omega arith)).1
signed_value (negsuc n) small = ap (λ (m : ℕ). neg_ℤ (pos m)) (decimal_is_IsNumeral (suc n) (omega arith)).1

pub signed_takes : (s : List ℕ) (z : ℤ) → signed_in s ≡ Some z → (s ≡ signed_decimal z) × unsigned_abs z < 2 ^ 63
unfolding signed_in
signed_takes s z e =
    let v = signed_digits_value 10 s in
    let found = cond_some (bytes_eq s (signed_decimal v) && ltb (unsigned_abs v) (2 ^ 63)) v z e in
    let parts = written_parts s (signed_decimal v) (ltb (unsigned_abs v) (2 ^ 63)) found.0 in
    (parts.0 ∙ ap signed_decimal found.1, subst (λ (z : ℤ). unsigned_abs z < 2 ^ 63) found.1 (ltb-true _ _ parts.1))

pub signed_again : (z : ℤ) → unsigned_abs z < 2 ^ 63 → signed_in (signed_decimal z) ≡ Some z
unfolding signed_in
signed_again z small =
    rw (signed_value z small, written_test (signed_decimal z) (signed_decimal z) (ltb (unsigned_abs z) (2 ^ 63)) refl (lt-ltb _ _ small)) refl

pub signed_none : (s : List ℕ) → ((z : ℤ) → unsigned_abs z < 2 ^ 63 → s ≡ signed_decimal z → ⊥) → signed_in s ≡ None
unfolding signed_in
signed_none s never = cond_none _ _ (λ e. let parts = written_parts s _ _ e in never (signed_digits_value 10 s) (ltb-true _ _ parts.1) parts.0)

-- what reads just the texts of some whole numbers reads what stands there
signed_by : (s : List ℕ) (f : ℕ → ℤ) (o : Option ℕ) → ((n : ℕ) → o ≡ Some n → (s ≡ signed_decimal (f n)) × unsigned_abs (f n) < 2 ^ 63)
    → ((z : ℤ) → unsigned_abs z < 2 ^ 63 → s ≡ signed_decimal z → (n : ℕ) × (o ≡ Some n)) → option_map f o ≡ signed_in s
signed_by s f None forth back = sym (signed_none s (λ z small e. let w = back z small e in absurd (let k = w.1 in cc)))
signed_by s f (Some n) forth back = let t = forth n refl in rw t.0 (sym (signed_again (f n) t.1))

-- a minus and digits
pub signed-minus : (s : List ℕ) → 0 < length s → get_or s 0 0 ≡ 45 → option_map (λ n. neg_ℤ (pos n)) (natural_in 1 (2 ^ 63 - 1) (take (length s - 1) (drop 1 s))) ≡ signed_in s
signed-minus [] some minus = absurd (omega arith)
signed-minus (d ∷ ds) some minus = rw (minus, take_all (length (d ∷ ds) - 1) ds (omega arith)) (signed_by (45 ∷ ds) (λ n. neg_ℤ (pos n)) (natural_in 1 (2 ^ 63 - 1) ds) forth back)
  where
    forth : (n : ℕ) → natural_in 1 (2 ^ 63 - 1) ds ≡ Some n → (45 ∷ ds ≡ signed_decimal (neg_ℤ (pos n))) × unsigned_abs (neg_ℤ (pos n)) < 2 ^ 63
    forth zero e = let t = natural_takes 1 (2 ^ 63 - 1) ds 0 e in absurd (omega (arith, t.1.0))
    forth (suc n) e = let t = natural_takes 1 (2 ^ 63 - 1) ds (suc n) e in (ap (λ (t : List ℕ). 45 ∷ t) t.0, omega (arith, t.1.1))

    back : (z : ℤ) → unsigned_abs z < 2 ^ 63 → 45 ∷ ds ≡ signed_decimal z → (n : ℕ) × (natural_in 1 (2 ^ 63 - 1) ds ≡ Some n)
    back (pos n) small e = absurd (omega (arith, first_digit n (omega arith), ap (λ (t : List ℕ). get_or t 0 0) e))
    back (negsuc n) small e = (suc n, rw (ap (drop 1) e) (natural_again 1 (2 ^ 63 - 1) (suc n) (omega arith) (omega arith, omega arith)))

-- digits alone
pub signed-plain : (s : List ℕ) → (get_or s 0 0 ≡ 45 → ⊥) → option_map (λ n. pos n) (natural_in 0 (2 ^ 63 - 1) s) ≡ signed_in s
signed-plain s other = signed_by s (λ n. pos n) (natural_in 0 (2 ^ 63 - 1) s)
    (λ n e. let t = natural_takes 0 (2 ^ 63 - 1) s n e in (t.0, omega (arith, t.1.1))) back
  where
    back : (z : ℤ) → unsigned_abs z < 2 ^ 63 → s ≡ signed_decimal z → (n : ℕ) × (natural_in 0 (2 ^ 63 - 1) s ≡ Some n)
    back (pos n) small e = (n, rw e (natural_again 0 (2 ^ 63 - 1) n (omega arith) (omega arith, omega arith)))
    back (negsuc n) small e = absurd (other (ap (λ (t : List ℕ). get_or t 0 0) e))
