-- The parts of a text round a separator.
use Rattle.std.proofs.Common.{◌≡◌, ℕ, ◌+◌, ◌-◌, ◌<◌, ◌≤◌, List, [], ◌∷◌, ◌==◌, length, take, drop, Bool, true, false, cond, Option, Some, None, position, refl, sym, ap, ◌∙◌, arith, ltb, take_all, drop-drop, length-drop, ltb-true, ltb-false, leb, le-leb, not, is_some, Bor}
use Rattle.std.specs.List.{slice_split, position_or_len, list_all}
use Rattle.std.specs.Option.{option_map_or}
use Rattle.std.proofs.Math.Bool.{and-true}
use Rattle.std.proofs.lemmas.Bool.{and_right, lt-leb}
use Rattle.std.proofs.lemmas.List.Splits.{slice_split_first, slice_split_none, length-slice_split}
use Rattle.std.proofs.lemmas.List.Sums.{fails_before_first}
use Rattle.certificate.specs.Readers.{has_parts}

abbrev pub parts_at : ℕ → List ℕ → List (List ℕ)
parts_at c text = slice_split (λ b. b == c) text

pub parts-whole : (c : ℕ) (text : List ℕ) → None ≡ position (λ b. b == c) text → parts_at c text ≡ text ∷ []
parts-whole c text e =
    let p : ℕ → Bool = λ b. b == c in
    elim (ltb (position_or_len p text) (length text)) as (λ t. ltb (position_or_len p text) (length text) ≡ t → None ≡ cond t (Some (position_or_len p text)) None → slice_split p text ≡ text ∷ []) [
      | true ↦ λ is h. absurd cc
      | false ↦ λ is h. slice_split_none p text (λ k d l. fails_before_first p text k d (omega (arith, ltb-false _ _ is)))
    ] refl e

pub parts-cut : (c i : ℕ) (text front back : List ℕ) → Some i ≡ position (λ b. b == c) text → front ≡ take i text → back ≡ drop i text
    → parts_at c text ≡ front ∷ parts_at c (take (length back - 1) (drop 1 back))
parts-cut c i text front back e f b =
    let p : ℕ → Bool = λ b. b == c in
    elim (ltb (position_or_len p text) (length text)) as (λ t. ltb (position_or_len p text) (length text) ≡ t
    → Some i ≡ cond t (Some (position_or_len p text)) None → slice_split p text ≡ front ∷ slice_split p (take (length back - 1) (drop 1 back))) [
      | true ↦ λ is h.
          let at : position_or_len p text ≡ i = cc in
          slice_split_first p text 0 (ltb-true _ _ is)
          ∙ rw (at, take_all (length back - 1) (drop 1 back) (omega (arith, length-drop 1 back)), f, b, drop-drop 1 i text) refl
      | false ↦ λ is h. absurd cc
    ] refl e

pub parts-some : (c : ℕ) (text : List ℕ) → (length (parts_at c text) == 0) ≡ false
parts-some c text = let some : 0 < length (parts_at c text) = omega (arith, length-slice_split (λ b. b == c) text) in grind arith

not_one : (a b : Bool) → a ≡ not b → b ≡ not a
not_one a true e = rw e refl
not_one a false e = rw e refl

-- whether a part is left
pub parts-none : (c : ℕ) (rest : Option (Bor (List ℕ))) (none : Bool) → is_some rest ≡ not none → none ≡ (length (option_map_or (λ text. parts_at c text.now) rest []) == 0)
parts-none c None none e = not_one _ none e
parts-none c (Some text) none e = not_one _ none e ∙ sym (parts-some c text.now)

-- ---- counting the parts

-- some parts of all were counted, and those are left
pub record Counts (most count : ℕ) (left all : List (List ℕ)) : Type 0 where
  pub few : count ≤ most
  pub len : count + length left ≡ length all
  pub filled : list_all (λ part. not (length part == 0)) left ≡ list_all (λ part. not (length part == 0)) all

pub count_more : (most count : ℕ) (part : List ℕ) (left rest all : List (List ℕ)) → left ≡ part ∷ rest → (length part == 0) ≡ false
    → ¬ (count ≡ most) → Counts most count left all → Counts most (count + 1) rest all
count_more most count part left rest all here some other so_far = record {
  few = omega (arith, so_far.few);
  len = omega (arith, so_far.len, ap length here);
  filled = (rw (here, some) at so_far.filled);
}

pub has_parts-empty : (least most count : ℕ) (part : List ℕ) (left rest all : List (List ℕ)) → left ≡ part ∷ rest → (length part == 0) ≡ true
    → Counts most count left all → false ≡ has_parts least most all
unfolding has_parts
has_parts-empty least most count part left rest all here none so_far = let f = rw (here, none) at so_far.filled in rw (← f) refl

pub has_parts-many : (least most count : ℕ) (part : List ℕ) (left rest all : List (List ℕ)) → left ≡ part ∷ rest → count ≡ most → Counts most count left all → false ≡ has_parts least most all
unfolding has_parts
has_parts-many least most count part left rest all here full so_far =
    sym (and_right _ _ (and_right (leb least (length all)) (leb (length all) most) (lt-leb _ _ (omega (arith, so_far.len, ap length here)))))

pub has_parts-counted : (least most count : ℕ) (left all : List (List ℕ)) → left ≡ [] → Counts most count left all → leb least count ≡ has_parts least most all
unfolding has_parts
has_parts-counted least most count left all none so_far =
    let n : count ≡ length all = omega (arith, so_far.len, ap length none) in
    rw (← (rw none at so_far.filled), ← n, le-leb _ _ so_far.few) (sym (and-true (leb least count)))
