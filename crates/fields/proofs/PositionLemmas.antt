-- Positions and the values of their fields make each other.
use Rattle.std.proofs.Common.{◌≡◌, ℕ, suc, ◌≤◌, ℤ, pos, negsuc, ◌≤ℤ◌, int_le, unsigned_abs, List, [], ◌∷◌, length, drop, true, ◌==◌, All, refl, ap, ap₂, arith, leb-true, le-leb, eqb-true}
use Rattle.std.specs.List.{list_all}
use Rattle.std.proofs.lemmas.Bool.{and_parts}
use Rattle.std.proofs.lemmas.List.Elements.{All-nil, All-cons, All-head, All-tail, All-weaker}
use Rattle.std.proofs.lemmas.Int.{ints}
use Rattle.goofspiel.specs.declared.Pay.{Pay}
use Rattle.goofspiel.specs.declared.Pay.TheVariants.{Margin, Win, Prizes}
use Rattle.fields.specs.declared.field.FieldKind.{FieldKind}
use Rattle.fields.specs.declared.field.FieldKind.TheVariants.{Number as NumberOf, List as ListOf, Numbers as NumbersOf, Optional as OptionalOf, Word as WordOf}
use Rattle.fields.specs.declared.field.Choices.TheVariants as choices
use Rattle.fields.specs.declared.field.Value.{Value}
use Rattle.fields.specs.declared.field.Value.TheVariants.{Number, List as Bytes, Numbers, Optional, Word}
use Rattle.fields.specs.declared.field.Word.TheVariants as words
use Rattle.fields.specs.declared.positions.PositionText.{PositionText}
use Rattle.fields.specs.declared.positions.PositionText.TheVariants as texts
use Rattle.fields.specs.declared.positions.GameKind.{GameKind}
use Rattle.fields.specs.declared.positions.GameKind.TheVariants.{Goofspiel, OshiZumo, Tron, GoofspielDrawn, Pursuit, Table}
use Rattle.sim_game.specs.declared.Limits.{Limits}
use Rattle.sim_game.specs.declared.Limits.TheVariants.{Narrow, Wide}
use Rattle.fields.specs.Numbers.{Between, IsNumberList}
use Rattle.fields.specs.Fields.{Fits, AllFit}
use Rattle.fields.specs.Positions.{kinds_of, kind_of, pay_named, pay_word, values_of, number_in_value, list_in_value, numbers_in_value, optional_in_value, word_in_value, position_with, IsPositionInRange, is_between, numbers_fit, fits_narrow, is_small, is_narrow}
use Rattle.fields.specs.Asks.{asked_kinds}

pub as_many : (ks : List FieldKind) (vs : List Value) → AllFit ks vs → length vs ≡ length ks
as_many [] [] fits = refl
as_many [] (v ∷ vs) fits = absurd fits
as_many (k ∷ ks) [] fits = absurd fits
as_many (k ∷ ks) (v ∷ vs) fits = ap suc (as_many ks vs fits.1)

list_is : (most : ℕ) (v : Value) → Fits (ListOf most) v → Bytes (list_in_value v) ≡ v
list_is most (Bytes ns) fits = refl
list_is most v fits = absurd fits

numbers_are : (low high : ℤ) (most : ℕ) (v : Value) → Fits (NumbersOf low high most) v → Numbers (numbers_in_value v) ≡ v
numbers_are low high most (Numbers zs) fits = refl
numbers_are low high most v fits = absurd fits

optional_is : (low high : ℤ) (most : ℕ) (v : Value) → Fits (OptionalOf low high most) v → Optional (optional_in_value v) ≡ v
optional_is low high most (Optional zs) fits = refl
optional_is low high most v fits = absurd fits

number_is : (low high : ℤ) (v : Value) → Fits (NumberOf low high) v → Number (number_in_value v) ≡ v
number_is low high (Number z) fits = refl
number_is low high v fits = absurd fits

count_is : (low : ℕ) (high : ℤ) (v : Value) → Fits (NumberOf (pos low) high) v → Number (pos (unsigned_abs (number_in_value v))) ≡ v
count_is low high (Number (pos n)) fits = refl
count_is low high (Number (negsuc n)) fits = absurd (omega (arith, ints, fits.0))
count_is low high v fits = absurd fits

pay_is : (v : Value) → Fits (WordOf choices.Pay) v → Word (pay_word (pay_named (word_in_value v))) ≡ v
pay_is (Word words.Margin) fits = refl
pay_is (Word words.Win) fits = refl
pay_is (Word words.Prizes) fits = refl
pay_is (Word words.Regret) fits = absurd cc
pay_is (Word words.Linear) fits = absurd cc
pay_is (Word words.Oracle) fits = absurd cc
pay_is (Word words.Induction) fits = absurd cc
pay_is v fits = absurd fits

word_pay : (pay : Pay) → pay_named (pay_word pay) ≡ pay
word_pay Margin = refl
word_pay Win = refl
word_pay Prizes = refl

-- five values are all
by_five : (ks : List FieldKind) (P : List Value → Type 0) (vs : List Value) → length vs ≡ 5 → AllFit ks vs
    → ((a b c d e : Value) → AllFit ks (a ∷ b ∷ c ∷ d ∷ e ∷ []) → P (a ∷ b ∷ c ∷ d ∷ e ∷ [])) → P vs
by_five ks P [] five fits by = absurd (omega (arith, five))
by_five ks P (a ∷ []) five fits by = absurd (omega (arith, five))
by_five ks P (a ∷ b ∷ []) five fits by = absurd (omega (arith, five))
by_five ks P (a ∷ b ∷ c ∷ []) five fits by = absurd (omega (arith, five))
by_five ks P (a ∷ b ∷ c ∷ d ∷ []) five fits by = absurd (omega (arith, five))
by_five ks P (a ∷ b ∷ c ∷ d ∷ e ∷ []) five fits by = by a b c d e fits
by_five ks P (a ∷ b ∷ c ∷ d ∷ e ∷ f ∷ more) five fits by = absurd (omega (arith, five))

same_five : {a b c d e v w x y z : Value} → v ≡ a → w ≡ b → x ≡ c → y ≡ d → z ≡ e → v ∷ w ∷ x ∷ y ∷ z ∷ [] ≡ a ∷ b ∷ c ∷ d ∷ e ∷ []
same_five p q r s t = rw (p, q, r, s, t) refl

-- the position made of values has these values
abbrev pub IsMadeOf : GameKind → List Value → Type 0
IsMadeOf game vs = (kind_of (position_with game vs) ≡ game) × (values_of (position_with game vs) ≡ vs)

-- a table has six
abbrev table_rest : List FieldKind
table_rest = drop 1 (kinds_of Wide Table)

table_made : (vs : List Value) → AllFit (kinds_of Wide Table) vs → IsMadeOf Table vs
table_made [] fits = absurd fits
table_made (a ∷ vs) fits = (
  refl,
  by_five table_rest (λ vs. values_of (position_with Table (a ∷ vs)) ≡ a ∷ vs) vs (as_many table_rest vs fits.1) fits.1
      (λ b c d e f g.
      ap₂ (λ (v : Value) (vs : List Value). v ∷ vs) (numbers_are _ _ _ a fits.0)
      (same_five (numbers_are _ _ _ b g.0) (numbers_are _ _ _ c g.1.0) (numbers_are _ _ _ d g.1.1.0) (numbers_are _ _ _ e g.1.1.1.0) (optional_is _ _ _ f g.1.1.1.1.0))),
)

pub made_of : (game : GameKind) (vs : List Value) → AllFit (kinds_of Wide game) vs → IsMadeOf game vs
made_of Goofspiel vs fits = by_five (kinds_of Wide Goofspiel) (IsMadeOf Goofspiel) vs (as_many (kinds_of Wide Goofspiel) vs fits) fits
    (λ a b c d e f. (refl, same_five (list_is _ a f.0) (list_is _ b f.1.0) (list_is _ c f.1.1.0) (number_is _ _ d f.1.1.1.0) (pay_is e f.1.1.1.1.0)))
made_of OshiZumo vs fits = by_five (kinds_of Wide OshiZumo) (IsMadeOf OshiZumo) vs (as_many (kinds_of Wide OshiZumo) vs fits) fits
    (λ a b c d e f. (refl, same_five (count_is _ _ a f.0) (count_is _ _ b f.1.0) (count_is _ _ c f.1.1.0) (count_is _ _ d f.1.1.1.0) (number_is _ _ e f.1.1.1.1.0)))
made_of Tron vs fits = by_five (kinds_of Wide Tron) (IsMadeOf Tron) vs (as_many (kinds_of Wide Tron) vs fits) fits
    (λ a b c d e f. (refl, same_five (count_is _ _ a f.0) (count_is _ _ b f.1.0) (list_is _ c f.1.1.0) (count_is _ _ d f.1.1.1.0) (count_is _ _ e f.1.1.1.1.0)))
made_of GoofspielDrawn vs fits = by_five (kinds_of Wide GoofspielDrawn) (IsMadeOf GoofspielDrawn) vs (as_many (kinds_of Wide GoofspielDrawn) vs fits) fits
    (λ a b c d e f. (refl, same_five (list_is _ a f.0) (list_is _ b f.1.0) (list_is _ c f.1.1.0) (number_is _ _ d f.1.1.1.0) (pay_is e f.1.1.1.1.0)))
made_of Pursuit vs fits = by_five (kinds_of Wide Pursuit) (IsMadeOf Pursuit) vs (as_many (kinds_of Wide Pursuit) vs fits) fits
    (λ a b c d e f. (refl, same_five (count_is _ _ a f.0) (list_is _ b f.1.0) (count_is _ _ c f.1.1.0) (count_is _ _ d f.1.1.1.0) (count_is _ _ e f.1.1.1.1.0)))
made_of Table vs fits = table_made vs fits

pub in_range_with : (game : GameKind) (vs : List Value) → AllFit (kinds_of Wide game) vs → IsPositionInRange (position_with game vs)
in_range_with game vs fits = let made = made_of game vs fits in rw (made.0, made.1) fits

-- the position made of its values is the position
pub made_again : (text : PositionText) → position_with (kind_of text) (values_of text) ≡ text
made_again (texts.Goofspiel one two prizes score pay) = ap (texts.Goofspiel one two prizes score) (word_pay pay)
made_again (texts.GoofspielDrawn one two prizes score pay) = ap (texts.GoofspielDrawn one two prizes score) (word_pay pay)
made_again text = refl

-- ---- the narrow limits

wider : (low high low' high' : ℤ) (most most' : ℕ) (zs : List ℤ) → low' ≤ℤ low → high ≤ℤ high' → most ≤ most' → IsNumberList low high most zs → IsNumberList low' high' most' zs
wider low high low' high' most most' zs below above more h = record {
  few = omega (arith, h.few, more);
  within = All-weaker (Between low high) (Between low' high') (λ z w. (omega (arith, ints, w.0, below), omega (arith, ints, w.1, above))) zs h.within;
}

-- each value that fits a kind fits the kind in its place
abbrev Widens : FieldKind → FieldKind → Type 0
Widens k wide = (v : Value) → Fits k v → Fits wide v

abbrev AllWiden : List FieldKind → List FieldKind → Type 0
AllWiden [] [] = Unit {0}
AllWiden (k ∷ ks) (w ∷ ws) = Widens k w × AllWiden ks ws
AllWiden ks ws = ⊥

all_widen : (ks ws : List FieldKind) (vs : List Value) → AllWiden ks ws → AllFit ks vs → AllFit ws vs
all_widen [] [] vs wide fits = fits
all_widen [] (w ∷ ws) vs wide fits = absurd wide
all_widen (k ∷ ks) [] vs wide fits = absurd wide
all_widen (k ∷ ks) (w ∷ ws) [] wide fits = absurd fits
all_widen (k ∷ ks) (w ∷ ws) (v ∷ vs) wide fits = (wide.0 v fits.0, all_widen ks ws vs wide.1 fits.1)

wider_numbers : (low high low' high' : ℤ) (most most' : ℕ) → low' ≤ℤ low → high ≤ℤ high' → most ≤ most' → Widens (NumbersOf low high most) (NumbersOf low' high' most')
wider_numbers low high low' high' most most' below above more (Numbers zs) fits = wider low high low' high' most most' zs below above more fits
wider_numbers low high low' high' most most' below above more v fits = absurd fits

wider_number : (low high low' high' : ℤ) → low' ≤ℤ low → high ≤ℤ high' → Widens (NumberOf low high) (NumberOf low' high')
wider_number low high low' high' below above (Number z) fits = (omega (arith, ints, fits.0, below), omega (arith, ints, fits.1, above))
wider_number low high low' high' below above v fits = absurd fits

wider_optional : (low high low' high' : ℤ) (most most' : ℕ) → low' ≤ℤ low → high ≤ℤ high' → most ≤ most' → Widens (OptionalOf low high most) (OptionalOf low' high' most')
wider_optional low high low' high' most most' below above more (Optional zs) fits = wider low high low' high' most most' zs below above more fits
wider_optional low high low' high' most most' below above more v fits = absurd fits

wider_pay : Widens (WordOf choices.PayAtEnd) (WordOf choices.Pay)
wider_pay (Word words.Margin) fits = refl
wider_pay (Word words.Win) fits = refl
wider_pay (Word w) fits = absurd cc
wider_pay v fits = absurd fits

pays_wide : AllWiden (kinds_of Narrow Goofspiel) (kinds_of Wide Goofspiel)
pays_wide = (λ v f. f, (λ v f. f, (λ v f. f, (λ v f. f, (wider_pay, tt)))))

lists_wide : AllWiden (kinds_of Narrow Table) (kinds_of Wide Table)
lists_wide = (
  wider_numbers _ _ _ _ _ _ (omega (arith, ints)) (omega (arith, ints)) (omega arith),
  (
    wider_numbers _ _ _ _ _ _ (omega (arith, ints)) (omega (arith, ints)) (omega arith),
    (
      wider_numbers _ _ _ _ _ _ (omega (arith, ints)) (omega (arith, ints)) (omega arith),
      (
        wider_numbers _ _ _ _ _ _ (omega (arith, ints)) (omega (arith, ints)) (omega arith),
        (
          wider_numbers _ _ _ _ _ _ (omega (arith, ints)) (omega (arith, ints)) (omega arith),
          (wider_optional _ _ _ _ _ _ (omega (arith, ints)) (omega (arith, ints)) (omega arith), tt),
        ),
      ),
    ),
  ),
)

-- what fits the fields within any limits fits the wide ones
pub within_wide : (limits : Limits) (game : GameKind) (vs : List Value) → AllFit (kinds_of limits game) vs → AllFit (kinds_of Wide game) vs
within_wide Narrow Goofspiel vs fits = all_widen (kinds_of Narrow Goofspiel) (kinds_of Wide Goofspiel) vs pays_wide fits
within_wide Narrow GoofspielDrawn vs fits = all_widen (kinds_of Narrow Goofspiel) (kinds_of Wide Goofspiel) vs pays_wide fits
within_wide Narrow Table vs fits = all_widen (kinds_of Narrow Table) (kinds_of Wide Table) vs lists_wide fits
within_wide limits game vs fits = fits

int_le-true : (a b : ℤ) → int_le a b ≡ true → a ≤ℤ b
int_le-true a b h = grind (arith, ints)

le-int_le : (a b : ℤ) → a ≤ℤ b → int_le a b ≡ true
le-int_le a b h = grind (arith, ints)

are_between : (low high : ℤ) (zs : List ℤ) → list_all (is_between low high) zs ≡ true → All (Between low high) zs
are_between low high [] h = All-nil (Between low high)
are_between low high (z ∷ zs) h =
    let a = and_parts _ _ h in
    let b = and_parts (int_le low z) (int_le z high) a.0 in
    All-cons (Between low high) z zs (int_le-true low z b.0, int_le-true z high b.1) (are_between low high zs a.1)

all_between : (low high : ℤ) (zs : List ℤ) → All (Between low high) zs → list_all (is_between low high) zs ≡ true
all_between low high [] h = refl
all_between low high (z ∷ zs) h =
    let b = All-head (Between low high) z zs h in
    rw (le-int_le low z b.0, le-int_le z high b.1, all_between low high zs (All-tail (Between low high) z zs h)) refl

-- what the test of a list decides
list_fits : (low high : ℤ) (most : ℕ) (zs : List ℤ) → numbers_fit (NumbersOf low high most) zs ≡ true → IsNumberList low high most zs
list_fits low high most zs h = let a = and_parts _ _ h in record { few = leb-true _ _ a.0; within = are_between low high zs a.1 }

fits_list : (low high : ℤ) (most : ℕ) (zs : List ℤ) → IsNumberList low high most zs → numbers_fit (NumbersOf low high most) zs ≡ true
fits_list low high most zs h = rw (le-leb _ _ h.few, all_between low high zs h.within) refl

none : (zs : List ℤ) → (length zs == 0) ≡ true → IsNumberList (pos 0) (pos 0) 0 zs
none [] h = record { few = omega arith; within = All-nil (Between (pos 0) (pos 0)) }
none (z ∷ zs) h = absurd (omega (arith, eqb-true (length (z ∷ zs)) 0 h))

narrow_values : (text : PositionText) → IsPositionInRange text → fits_narrow text ≡ true → AllFit (kinds_of Narrow (kind_of text)) (values_of text)
narrow_values (texts.Goofspiel one two prizes score Prizes) f h = absurd cc
narrow_values (texts.Goofspiel one two prizes score Margin) f h = (f.0, (f.1.0, (f.1.1.0, (f.1.1.1.0, (refl, tt)))))
narrow_values (texts.Goofspiel one two prizes score Win) f h = (f.0, (f.1.0, (f.1.1.0, (f.1.1.1.0, (refl, tt)))))
narrow_values (texts.GoofspielDrawn one two prizes score Prizes) f h = absurd cc
narrow_values (texts.GoofspielDrawn one two prizes score Margin) f h = (f.0, (f.1.0, (f.1.1.0, (f.1.1.1.0, (refl, tt)))))
narrow_values (texts.GoofspielDrawn one two prizes score Win) f h = (f.0, (f.1.0, (f.1.1.0, (f.1.1.1.0, (refl, tt)))))
narrow_values (texts.Table ranks moves values cells draws rewards) f h =
    let a = and_parts _ _ h in
    let b = and_parts _ _ a.1 in
    let c = and_parts _ _ b.1 in
    let d = and_parts _ _ c.1 in
    let e = and_parts _ _ d.1 in
    (list_fits _ _ _ ranks b.0, (list_fits _ _ _ moves c.0, (list_fits _ _ _ values d.0, (list_fits _ _ _ cells e.0, (list_fits _ _ _ draws e.1, (none rewards a.0, tt))))))
narrow_values text f h = f

no_numbers : (zs : List ℤ) → length zs ≤ 0 → (length zs == 0) ≡ true
no_numbers [] few = refl
no_numbers (z ∷ zs) few = absurd (omega (arith, few))

values_narrow : (text : PositionText) → AllFit (kinds_of Narrow (kind_of text)) (values_of text) → fits_narrow text ≡ true
values_narrow (texts.Goofspiel one two prizes score Prizes) f = absurd (let x = f.1.1.1.1.0 in cc)
values_narrow (texts.GoofspielDrawn one two prizes score Prizes) f = absurd (let x = f.1.1.1.1.0 in cc)
values_narrow (texts.Goofspiel one two prizes score pay) f = refl
values_narrow (texts.GoofspielDrawn one two prizes score pay) f = refl
values_narrow (texts.Table ranks moves values cells draws rewards) f =
    let later = f.1.1 in
    let unpaid = no_numbers rewards later.1.1.1.0.few in
    rw (unpaid, fits_list _ _ _ ranks f.0, fits_list _ _ _ moves f.1.0, fits_list _ _ _ values later.0, fits_list _ _ _ cells later.1.0, fits_list _ _ _ draws later.1.1.0) refl
values_narrow text f = refl

pub narrow_fits : (text : PositionText) → IsPositionInRange text → is_narrow text ≡ true → AllFit (kinds_of Narrow (kind_of text)) (values_of text)
narrow_fits text place narrow = narrow_values text place (and_parts (fits_narrow text) (is_small text) narrow).0

-- what fits the narrow fields is within the narrow limits, unless a number is too large for the narrow rules
pub narrow_by_size : (text : PositionText) → AllFit (kinds_of Narrow (kind_of text)) (values_of text) → is_narrow text ≡ is_small text
narrow_by_size text fits = rw (values_narrow text fits) refl

-- ---- what is asked
asks_wide : AllWiden (asked_kinds Narrow) (asked_kinds Wide)
asks_wide = (λ v f. f, (λ v f. f, (λ v f. f, (λ v f. f, (wider_number _ _ _ _ (omega (arith, ints)) (omega (arith, ints)), (λ v f. f, (λ v f. f, (λ v f. f, tt))))))))

-- what can be asked within any limits can be asked within the wide ones
pub asked_wide : (limits : Limits) (vs : List Value) → AllFit (asked_kinds limits) vs → AllFit (asked_kinds Wide) vs
asked_wide Wide vs fits = fits
asked_wide Narrow vs fits = all_widen (asked_kinds Narrow) (asked_kinds Wide) vs asks_wide fits
