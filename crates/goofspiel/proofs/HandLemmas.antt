-- Lists of cards that are packed into hands, and the position that lists make.
use Rattle.std.proofs.Common.{◌≡◌, ℕ, ◌+◌, ◌-◌, ◌^◌, ◌<◌, ◌≤◌, Bool, true, false, ◌||◌, cond, eqb, ltb, List, [], ◌++◌, length, get_or, take, drop, replicate, Some, None, position, refl, sym, ap, ap₂, ◌∙◌, subst, inl, inr, arith}
use Rattle.std.proofs.lemmas.Bool.{cases_lt, lt-ltb, ltb-false, or_parts}
use Rattle.std.proofs.lemmas.Bool.Decides.{nat_tests}
use Rattle.std.proofs.lemmas.List.{take_at, take_all, drop_all, take_more, drop_more}
use Rattle.std.proofs.lemmas.List.Elements.{All-from_get_or}
use Rattle.std.proofs.lemmas.List.Folds.{list_any_more}
use Rattle.std.proofs.lemmas.List.Sums.{fails_before_first}
use Rattle.std.proofs.lemmas.Nat.{pow_pos}
use Rattle.std.proofs.lemmas.Nat.Bits.{bit_at-zero}
use Rattle.std.specs.Int.{bit_at}
use Rattle.std.specs.Int.RustNames.{unsigned_abs}
use Rattle.std.specs.Int.Count.{ones}
use Rattle.std.specs.List.{All, list_any, position_or_len}
use Rattle.state_key.specs.Sets.{is_in, with_number}
use Rattle.state_key.proofs.SetLemmas.{bit_clear, filter_agrees, in_with, members_count, ones_with, with_below}
use Rattle.goofspiel.specs.Cards.{cards, members, rising}
use Rattle.goofspiel.specs.laws.Cards.{few_cards}
use Rattle.goofspiel.specs.declared.Setting.{Setting}
use Rattle.text.specs.Faults.{is_outside}
use Rattle.goofspiel.specs.Position.{repeat_after, prizes_of, IsHandOf, IsPosition}

-- ---- numbers within a range
pub none_fails : (p : ℕ → Bool) (xs : List ℕ) (i : ℕ) → position p xs ≡ None → i < length xs → p (get_or xs i 0) ≡ false
none_fails p xs i none l = elim (cases_lt (position_or_len p xs) (length xs)) [
  | inl found ↦ absurd (let e = rw (lt-ltb (position_or_len p xs) (length xs) found) at none in cc)
  | inr past ↦ fails_before_first p xs i 0 (omega arith)
]

inside : (low high number : ℕ) → is_outside low high number ≡ false → (low ≤ number) × (number ≤ high)
inside low high number h = let both = or_parts (ltb number low) (ltb high number) h in (ltb-false number low both.0, ltb-false high number both.1)

pub number_inside : (low high : ℕ) (xs : List ℕ) (i : ℕ) → position (is_outside low high) xs ≡ None → i < length xs → (low ≤ get_or xs i 0) × (get_or xs i 0 ≤ high)
number_inside low high xs i none l = inside low high (get_or xs i 0) (none_fails (is_outside low high) xs i none l)

-- ---- the packed hand of a list
-- the first `count` cards of the hand differ, and are packed
pub record IsGathered (hand : List ℕ) (count packed : ℕ) : Type 0 where
  pub small : packed < 2 ^ 13
  pub bits : (card : ℕ) → 1 ≤ card → card ≤ 13 → is_in packed (card - 1) ≡ list_any (λ other. eqb other card) (take count hand)
  pub size : ones packed ≡ count
  pub repeat : repeat_after [] hand ≡ repeat_after (take count hand) (drop count hand)

pub gathered_none : (hand : List ℕ) → IsGathered hand 0 0
unfolding ones
gathered_none hand = record {
  small = pow_pos 13;
  bits = λ card l h. ap (λ (b : ℕ). eqb b 1) (bit_at-zero (card - 1));
  size = refl;
  repeat = refl;
}

-- the walk looks at the next card
repeat_step : (hand : List ℕ) (i : ℕ) → i < length hand
    → repeat_after (take i hand) (drop i hand) ≡ cond (list_any (λ other. eqb other (get_or hand i 0)) (take i hand)) (Some (get_or hand i 0)) (repeat_after (take (i + 1) hand) (drop (i + 1) hand))
repeat_step hand i l =
    let card = get_or hand i 0 in
    ap (repeat_after (take i hand)) (drop_more hand i 0 l)
    ∙ ap (λ (earlier : List ℕ). cond (list_any (λ other. eqb other card) (take i hand)) (Some card) (repeat_after earlier (drop (i + 1) hand))) (sym (take_more hand i 0 l))

pub gathered_repeat : (hand : List ℕ) (i packed : ℕ) → i < length hand → 1 ≤ get_or hand i 0 → get_or hand i 0 ≤ 13 → is_in packed (get_or hand i 0 - 1) ≡ true
    → IsGathered hand i packed → repeat_after [] hand ≡ Some (get_or hand i 0)
gathered_repeat hand i packed l low high there g =
    let card = get_or hand i 0 in
    let before : list_any (λ other. eqb other card) (take i hand) ≡ true = sym (g.bits card low high) ∙ there in
    g.repeat ∙ repeat_step hand i l ∙ ap (λ (b : Bool). cond b (Some card) (repeat_after (take (i + 1) hand) (drop (i + 1) hand))) before

-- cards are equal where their bits are
same_bits : (card other : ℕ) → 1 ≤ card → 1 ≤ other → eqb (card - 1) (other - 1) ≡ eqb card other
same_bits card other p q = grind (arith, nat_tests)

pub gathered_more : (hand : List ℕ) (i packed : ℕ) → i < length hand → 1 ≤ get_or hand i 0 → get_or hand i 0 ≤ 13 → is_in packed (get_or hand i 0 - 1) ≡ false
    → IsGathered hand i packed → IsGathered hand (i + 1) (with_number packed (get_or hand i 0 - 1))
gathered_more hand i packed l low high free g =
    let card = get_or hand i 0 in
    let before : list_any (λ other. eqb other card) (take i hand) ≡ false = sym (g.bits card low high) ∙ free in
    record {
      small = with_below 13 packed (card - 1) (omega arith) g.small;
      bits = λ other a b. in_with packed (card - 1) (other - 1) ∙ ap₂ (λ (x y : Bool). x || y) (g.bits other a b) (same_bits card other low a)
          ∙ sym (list_any_more (λ third. eqb third other) hand i 0 l);
      size = ones_with packed (card - 1) (bit_clear packed (card - 1) free) ∙ ap (λ (n : ℕ). n + 1) g.size;
      repeat = g.repeat ∙ repeat_step hand i l ∙ ap (λ (b : Bool). cond b (Some card) (repeat_after (take (i + 1) hand) (drop (i + 1) hand))) before;
    }

pub gathered_all : (hand : List ℕ) (packed : ℕ) → IsGathered hand (length hand) packed → IsHandOf hand packed
unfolding members rising
gathered_all hand packed g =
    let count : length (cards packed) ≡ length hand = members_count 13 1 packed g.small ∙ g.size in
    record {
      small = g.small;
      is = filter_agrees (λ card. eqb (bit_at packed (card - 1)) 1) (λ card. list_any (λ other. eqb other card) hand) 13 1
          (λ card l u. g.bits card l (omega arith) ∙ ap (list_any (λ other. eqb other card)) (take_all (length hand) hand (omega arith)));
      count = count;
      few = omega (arith, count, few_cards packed g.small);
      no_repeat = g.repeat ∙ ap (repeat_after (take (length hand) hand)) (drop_all (length hand) hand (omega arith));
    }

-- ---- the position of the lists
pub array_prizes : (prizes array : List ℕ) → array ≡ prizes ++ replicate (13 - length prizes) 0 → take (length prizes) array ≡ prizes
array_prizes prizes array is = rw is (take_at prizes (replicate (13 - length prizes) 0) (length prizes) refl)

pub position_of : (g : Setting) (prizes : List ℕ) → g.one < 2 ^ 13 → g.two < 2 ^ 13 → length (cards g.one) ≡ length prizes → length (cards g.two) ≡ length prizes
    → g.count ≡ length prizes → g.prizes ≡ prizes ++ replicate (13 - length prizes) 0 → position (is_outside 1 100) prizes ≡ None → unsigned_abs g.score ≤ 1000 → IsPosition g
position_of g prizes one two one_count two_count count array inside score =
    let same : prizes_of g ≡ prizes = ap (λ (n : ℕ). take n g.prizes) count ∙ array_prizes prizes g.prizes array in
    record {
      one_small = one;
      two_small = two;
      one_count = omega arith;
      two_count = omega arith;
      prize_count = ap length same ∙ sym count;
      prize_high = subst (All (λ prize. prize ≤ 100)) (sym same) (All-from_get_or (λ prize. prize ≤ 100) prizes 0 (λ i l. (number_inside 1 100 prizes i inside l).1));
      score_small = score;
    }
