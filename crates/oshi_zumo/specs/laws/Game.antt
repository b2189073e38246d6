-- The rules of Oshi-Zumo make a game.
use Rattle.std.proofs.Common.{◌≡◌, ℕ, ◌+◌, ◌-◌, ◌*◌, ◌/◌, ◌^◌, ◌<◌, ◌≤◌, max, ℤ, pos, negsuc, neg_ℤ, ◌+ℤ◌, ◌≤ℤ◌, Bool, true, false, ◌||◌, ◌&&◌, cond, ltb, List, [], ◌∷◌, length, get_or, refl, ap, inl, inr, arith}
use Rattle.std.proofs.lemmas.Bool.{cases_lt, cond-false, cond-true, cond_both, le-ltb, lt-ltb, ltb-false, or_parts}
use Rattle.std.proofs.lemmas.Bool.Decides.{nat_tests}
use Rattle.std.proofs.lemmas.Int.{ints}
use Rattle.std.proofs.lemmas.List.FromFn.{length-range_with_len, get_or-range_with_len}
use Rattle.std.proofs.lemmas.Nat.{mul-add-lt}
use Rattle.std.proofs.Math.Nat.{mul-le-mul, div-eq_of_lt, div-lt_iff_lt-mul, le-div_iff_mul-le, lt-div-mul-add, div-le_self}
use Rattle.std.specs.Int.{int_signum}
use Rattle.std.specs.Int.RustNames.{unsigned_abs}
use Rattle.std.specs.List.{range_with_len}
use Rattle.oshi_zumo.specs.declared.Setting.{Setting}
use Rattle.oshi_zumo.specs.declared.State.{State}
use Rattle.oshi_zumo.specs.Position.{IsPosition}
use Rattle.oshi_zumo.specs.Rules.{coins_of, is_off, is_bout_over, bids_from, bids, push_of, oshi_zumo_rank, is_wide_bout, coin_bits, oshi_zumo_key, from_end, oshi_zumo_numbering, oshi_zumo_game}
use Rattle.sim_game.specs.declared.Side.{Side}
use Rattle.sim_game.specs.declared.Side.TheVariants.{One, Two}
use Rattle.sim_game.specs.declared.TheConstants.{MOST_TURNS}
use Rattle.sim_game.specs.Model.{Turn, IsTurn, Reachable, IsGame, after_turn}
use Rattle.sim_game.specs.Numbers.{IsNumbering, digits_apart}
use Rattle.sim_game.proofs.ReachLemmas.{reachable_induction}

-- ---- bids
few_bids : (least coins : ℕ) → coins < least → bids_from least coins ≡ 0 ∷ []
few_bids least coins h = cond-true (ltb coins least) (0 ∷ []) (range_with_len least (coins + 1 - least)) (lt-ltb coins least h)

pub many_bids : (least coins : ℕ) → least ≤ coins → bids_from least coins ≡ range_with_len least (coins + 1 - least)
many_bids least coins h = cond-false (ltb coins least) (0 ∷ []) (range_with_len least (coins + 1 - least)) (le-ltb coins least h)

bids_count : (least coins top : ℕ) → coins ≤ top → (1 ≤ length (bids_from least coins)) × (length (bids_from least coins) ≤ max 1 (top + 1 - least))
bids_count least coins top h = elim (cases_lt coins least) [
  | inl few ↦ rw (few_bids least coins few) (omega arith, omega arith)
  | inr enough ↦ rw (many_bids least coins enough, length-range_with_len) (omega arith, omega arith)
]

-- the bids of a side with enough coins
pub bid_within : (least coins i : ℕ) → least ≤ coins → i < length (bids_from least coins) → (least + i ≤ coins) × (get_or (bids_from least coins) i 0 ≡ least + i)
bid_within least coins i enough h =
    let e = many_bids least coins enough in
    let place : i < coins + 1 - least = rw (e, length-range_with_len) at h in
    (omega arith, rw e (get_or-range_with_len least (coins + 1 - least) i 0 place))

-- a bid can be paid
pub bid_paid : (least coins i : ℕ) → i < length (bids_from least coins) → get_or (bids_from least coins) i 0 ≤ coins
bid_paid least coins i h = elim (cases_lt coins least) [
  | inl few ↦
      let e = few_bids least coins few in
      let first : i < 1 = rw e at h in
      let zero_place : i ≡ 0 = omega arith in
      rw (e, zero_place) (omega arith)
  | inr enough ↦ let w = bid_within least coins i enough h in omega arith
]

-- a bid from the least one up lowers the quotient
quotient_falls : (least coins bid : ℕ) → 1 ≤ least → least ≤ coins → least ≤ bid → (coins - bid) / least < coins / least
quotient_falls least coins bid p h q =
    let below : coins - bid < coins / least * least = omega (arith, lt-div-mul-add {a = coins} {b = least} p) in
    (div-lt_iff_lt-mul {x = coins - bid} {y = coins / least} p).1 below

-- a bid lowers the rank
bid_falls : (least coins i top : ℕ) → 1 ≤ least → i < length (bids_from least coins) → 1 ≤ top → coins / least ≤ top → (coins - get_or (bids_from least coins) i 0) / least < top
bid_falls least coins i top p h q r = elim (cases_lt coins least) [
  | inl few ↦
      let none : (coins - get_or (bids_from least coins) i 0) / least ≡ 0 = div-eq_of_lt (omega arith) in
      omega arith
  | inr enough ↦
      rw ((bid_within least coins i enough h).1) (omega (arith, quotient_falls least coins (least + i) p enough (omega arith)))
]

-- ---- ends
pub over_at_end : (off : Bool) (one two least : ℕ) → 1 ≤ least → cond off 0 (max (one / least) (two / least)) ≡ 0 → (off || (ltb one least && ltb two least)) ≡ true
over_at_end true one two least p h = refl
over_at_end false one two least p h =
    let few_one : one < 1 * least = (div-lt_iff_lt-mul {x = one} {y = 1} p).0 (omega arith) in
    let few_two : two < 1 * least = (div-lt_iff_lt-mul {x = two} {y = 1} p).0 (omega arith) in
    rw (lt-ltb one least (omega arith), lt-ltb two least (omega arith)) refl

not_over : (off : Bool) (one two least : ℕ) → 1 ≤ least → 1 ≤ cond off 0 (max (one / least) (two / least)) → (off || (ltb one least && ltb two least)) ≡ false
not_over true one two least p h = absurd (omega arith)
not_over false one two least p h = elim (cases_lt one least) [
  | inl few ↦ elim (cases_lt two least) [
    | inl too ↦ absurd (omega (arith, div-eq_of_lt few, div-eq_of_lt too))
    | inr enough ↦ rw (lt-ltb one least few, le-ltb two least enough) refl
  ]
  | inr enough ↦ rw (le-ltb one least enough) refl
]

-- ---- what holds of each reachable state
pub record IsOshiZumoSound (g : Setting) (s : State) : Type 0 where
  pub one_high : s.one ≤ g.one
  pub two_high : s.two ≤ g.two
  pub near : unsigned_abs s.place ≤ g.size + 1

push_small : (one two : ℕ) → unsigned_abs (push_of one two) ≤ 1
push_small one two = cond_both (ltb two one) (pos 1) (cond (ltb one two) (neg_ℤ (pos 1)) (pos 0)) (λ (z : ℤ). unsigned_abs z ≤ 1) (λ _. omega arith)
    (λ _. cond_both (ltb one two) (neg_ℤ (pos 1)) (pos 0) (λ (z : ℤ). unsigned_abs z ≤ 1) (λ _. omega arith) (λ _. omega arith))

place_on_board : (size : ℕ) (place : ℤ) (poor : Bool) → (ltb size (unsigned_abs place) || poor) ≡ false → unsigned_abs place ≤ size
place_on_board size place poor h = grind (arith, nat_tests)

-- ---- keys
-- the coins of the position fit the fields of its keys
coins_below : (g : Setting) → IsPosition g → (g.one < 2 ^ coin_bits g) × (g.two < 2 ^ coin_bits g)
coins_below g p = cond_both (is_wide_bout g) 6 5 (λ (bits : ℕ). (g.one < 2 ^ bits) × (g.two < 2 ^ bits)) (λ _. (omega (arith, p.one_high), omega (arith, p.two_high))) (λ narrow.
    let some = or_parts (ltb 31 g.one) _ narrow in
    let rest = or_parts (ltb 31 g.two) _ some.1 in
    (omega (arith, ltb-false 31 g.one some.0), omega (arith, ltb-false 31 g.two rest.0)))

pub same_oshi_zumo_state : (s t : State) → s.place ≡ t.place → s.one ≡ t.one → s.two ≡ t.two → s ≡ t
same_oshi_zumo_state s t p q r = λ i. record { place = p i; one = q i; two = r i }

-- ---- turns
pub moves_open : (over : Bool) (xs : List ℕ) (i : ℕ) → i < length (cond over [] xs) → over ≡ false
moves_open true xs i h = absurd (omega arith)
moves_open false xs i h = refl

rank_open : (off : Bool) (one two least : ℕ) → 1 ≤ least → (off || (ltb one least && ltb two least)) ≡ false → (off ≡ false) × (1 ≤ max (one / least) (two / least))
rank_open true one two least p h = absurd (cc)
rank_open false one two least p h = elim (cases_lt one least) [
  | inl few ↦ elim (cases_lt two least) [
    | inl too ↦ let e = rw (lt-ltb one least few, lt-ltb two least too) at h in absurd (cc)
    | inr enough ↦ (refl, omega (arith, (le-div_iff_mul-le {x = 1} {y = two} p).1 (omega arith)))
  ]
  | inr enough ↦ (refl, omega (arith, (le-div_iff_mul-le {x = 1} {y = one} p).1 (omega arith)))
]

cond_below : (off : Bool) (x top : ℕ) → x < top → cond off 0 x < top
cond_below true x top h = omega arith
cond_below false x top h = h

cond_short : (over : Bool) (xs : List ℕ) (top : ℕ) → length xs ≤ top → length (cond over [] xs) ≤ top
cond_short true xs top h = omega arith
cond_short false xs top h = h

sign_small : (z : ℤ) → (negsuc 0 ≤ℤ int_signum z) × (int_signum z ≤ℤ pos 1)
sign_small (pos n) = (omega (arith, ints), omega (arith, ints))
sign_small (negsuc n) = (omega (arith, ints), omega (arith, ints))

pub open_bids : (g : Setting) (side : Side) (s : State) → is_bout_over g s ≡ false → bids g side s ≡ bids_from g.least (coins_of side s)
open_bids g side s h = ap (λ (b : Bool). cond b [] (bids_from g.least (coins_of side s))) h

module _ (g : Setting) (p : IsPosition g) where
  pub bids_open : (s : State) (t : Turn) → IsTurn (oshi_zumo_game g) s t → is_bout_over g s ≡ false
  bids_open s t turn = moves_open (is_bout_over g s) (bids_from g.least s.one) t.one turn.one_below

  rank_falls : (s : State) (t : Turn) → IsTurn (oshi_zumo_game g) s t → oshi_zumo_rank g (after_turn (oshi_zumo_game g) s t) < oshi_zumo_rank g s
  rank_falls s t turn =
      let over = bids_open s t turn in
      let here = rank_open (is_off g s) s.one s.two g.least p.least_low over in
      let top = max (s.one / g.least) (s.two / g.least) in
      let place_one : t.one < length (bids_from g.least s.one) = rw (open_bids g One s over) at turn.one_below in
      let place_two : t.two < length (bids_from g.least s.two) = rw (open_bids g Two s over) at turn.two_below in
      let next = after_turn (oshi_zumo_game g) s t in
      let paid_one : next.one / g.least < top = rw (open_bids g One s over) (bid_falls g.least s.one t.one top p.least_low place_one here.1 (omega arith)) in
      let paid_two : next.two / g.least < top = rw (open_bids g Two s over) (bid_falls g.least s.two t.two top p.least_low place_two here.1 (omega arith)) in
      let rank : oshi_zumo_rank g s ≡ top = ap (λ (b : Bool). cond b 0 top) here.0 in
      rw rank (cond_below (is_off g next) (max (next.one / g.least) (next.two / g.least)) top (omega arith))

  sound_root : IsOshiZumoSound g (oshi_zumo_game g).root
  sound_root = record {
    one_high = omega arith;
    two_high = omega arith;
    near = omega (arith, p.on_board);
  }

  sound_turn : (s : State) (t : Turn) → IsOshiZumoSound g s → IsTurn (oshi_zumo_game g) s t → IsOshiZumoSound g (after_turn (oshi_zumo_game g) s t)
  sound_turn s t here turn =
      record {
        one_high = omega (arith, here.one_high);
        two_high = omega (arith, here.two_high);
        near = omega (
          arith,
          ints,
          place_on_board g.size s.place (ltb s.one g.least && ltb s.two g.least) (bids_open s t turn),
          push_small
              (get_or (bids g One s) t.one 0) (get_or (bids g Two s) t.two 0),
        );
      }

  pub oshi_zumo_sound : (s : State) → Reachable (oshi_zumo_game g) s → IsOshiZumoSound g s
  oshi_zumo_sound = reachable_induction (oshi_zumo_game g) (IsOshiZumoSound g) sound_root (λ s t _ here turn. sound_turn s t here turn)

  -- the fields of the key
  pub record HasKeyFields (s : State) : Type 0 where
    pub near : unsigned_abs s.place ≤ 9
    pub one : s.one < 2 ^ coin_bits g
    pub two : s.two < 2 ^ coin_bits g

  pub key_fields : (s : State) → Reachable (oshi_zumo_game g) s → HasKeyFields s
  key_fields s r =
      let here = oshi_zumo_sound s r in
      let room = coins_below g p in
      record { near = omega (arith, here.near, p.size_high); one = omega (arith, here.one_high, room.0); two = omega (arith, here.two_high, room.1) }

  key_below : (s : State) → Reachable (oshi_zumo_game g) s → oshi_zumo_key g s < 2 ^ 63
  key_below s r =
      let here = key_fields s r in
      let front = unsigned_abs (s.place +ℤ pos 16) in
      let below : front < 32 = omega (arith, ints, here.near) in
      let first = mul-add-lt front (2 ^ coin_bits g) s.one 32 below here.one in
      let whole = mul-add-lt (front * 2 ^ coin_bits g + s.one) (2 ^ coin_bits g) s.two (2 ^ coin_bits g * 32) first here.two in
      cond_both (is_wide_bout g) 6 5 (λ (bits : ℕ). oshi_zumo_key g s < 2 ^ bits * (2 ^ bits * 32) → oshi_zumo_key g s < 2 ^ 63) (λ _ h. omega (arith, h)) (λ _ h. omega (arith, h)) whole

  same_key : (s t : State) → Reachable (oshi_zumo_game g) s → Reachable (oshi_zumo_game g) t → oshi_zumo_key g s ≡ oshi_zumo_key g t → s ≡ t
  same_key s t r r' e =
      let here = key_fields s r in
      let there = key_fields t r' in
      let outer = digits_apart (2 ^ coin_bits g) _ _ _ _ here.two there.two e in
      let inner = digits_apart (2 ^ coin_bits g) _ _ _ _ here.one there.one outer.0 in
      same_oshi_zumo_state s t (omega (arith, ints, here.near, there.near, inner.0)) inner.1 outer.1

  end_moves : (side : Side) (s : State) → oshi_zumo_rank g s ≡ 0 → length (bids g side s) ≡ 0
  end_moves side s h = rw (over_at_end (is_off g s) s.one s.two g.least p.least_low h) refl

  moves_count : (side : Side) (s : State) (top : ℕ) → is_bout_over g s ≡ false → coins_of side s ≤ top → (1 ≤ length (bids g side s)) × (length (bids g side s) ≤ max 1 (top + 1 - g.least))
  moves_count side s top over h = rw (open_bids g side s over) (bids_count g.least (coins_of side s) top h)

  some_moves : (side : Side) (s : State) → 1 ≤ oshi_zumo_rank g s → 1 ≤ length (bids g side s)
  some_moves side s h = (moves_count side s (coins_of side s) (not_over (is_off g s) s.one s.two g.least p.least_low h) (omega arith)).0

  few_moves : (side : Side) (s : State) → IsOshiZumoSound g s → length (bids g side s) ≤ (oshi_zumo_game g).width
  few_moves One s here = cond_short (is_bout_over g s) (bids_from g.least s.one) (oshi_zumo_game g).width (omega (arith, bids_count g.least s.one g.one here.one_high))
  few_moves Two s here = cond_short (is_bout_over g s) (bids_from g.least s.two) (oshi_zumo_game g).width (omega (arith, bids_count g.least s.two g.two here.two_high))

  rank_high : (s : State) → IsOshiZumoSound g s → oshi_zumo_rank g s ≤ MOST_TURNS
  rank_high s here = omega (
    arith,
    cond_below (is_off g s) (max (s.one / g.least) (s.two / g.least)) (MOST_TURNS + 1)
        (omega (arith, div-le_self s.one g.least, div-le_self s.two g.least, here.one_high, here.two_high, p.one_high, p.two_high)),
  )

  pub oshi_zumo_is_game : IsGame (oshi_zumo_game g)
  oshi_zumo_is_game = record {
    width_low = omega arith;
    width_high = omega (arith, p.one_high, p.two_high, p.least_low);
    low_least = omega (arith, ints);
    low_high = omega (arith, ints);
    high_most = omega (arith, ints);
    end_moves = λ side s r h. end_moves side s h;
    other_moves = λ side s r h. some_moves side s h;
    moves_high = λ side s r. few_moves side s (oshi_zumo_sound s r);
    rank_high = λ s r. rank_high s (oshi_zumo_sound s r);
    rank_falls = λ s t r turn. rank_falls s t turn;
    least_low = λ s r. omega (arith, ints);
    most_high = λ s r. omega (arith, ints);
    payoff_low = λ s r h. (sign_small s.place).0;
    payoff_high = λ s r h. (sign_small s.place).1;
    reward_low = λ s t r turn. omega (arith, ints);
    reward_high = λ s t r turn. omega (arith, ints);
    same_key = same_key;
    key_high = key_below;
    draws_low = λ s a b r h h'. omega arith;
    draws_high = λ s a b r h h'. omega arith;
    chance_low = λ s t r h. omega arith;
    chance_sum = λ s a b r h h'. refl;
    one_draw = λ s a b h r h' h''. refl;
  }

  -- ---- places
  -- the digits of the place
  pub record HasPlaceDigits (s : State) : Type 0 where
    pub far : from_end g s < 2 * g.size + 3
    pub one : s.one < g.one + 1
    pub two : s.two < g.two + 1

  pub place_digits : (s : State) → Reachable (oshi_zumo_game g) s → HasPlaceDigits s
  place_digits s r =
      let here = oshi_zumo_sound s r in
      record { far = omega (arith, ints, here.near); one = omega (arith, here.one_high); two = omega (arith, here.two_high) }

  same_place : (s t : State) → IsOshiZumoSound g s → IsOshiZumoSound g t → from_end g s ≡ from_end g t → s.place ≡ t.place
  same_place s t here there e = omega (arith, ints, here.near, there.near, e)

  pub oshi_zumo_numbered : IsNumbering (oshi_zumo_game g) (oshi_zumo_numbering g)
  oshi_zumo_numbered = record {
    below = λ s r.
        let here = place_digits s r in
        mul-add-lt (from_end g s * (g.one + 1) + s.one) (g.two + 1) s.two ((g.one + 1) * (2 * g.size + 3))
        (mul-add-lt (from_end g s) (g.one + 1) s.one (2 * g.size + 3) here.far here.one) here.two;
    apart = λ s t r r' e.
        let here = place_digits s r in
        let there = place_digits t r' in
        let outer = digits_apart (g.two + 1) _ _ _ _ here.two there.two e in
        let inner = digits_apart (g.one + 1) _ _ _ _ here.one there.one outer.0 in
        same_oshi_zumo_state s t (same_place s t (oshi_zumo_sound s r) (oshi_zumo_sound t r') inner.0) inner.1 outer.1;
  }

  pub few_places : (oshi_zumo_numbering g).most ≤ 77824
  few_places =
      mul-le-mul {n₁ = g.two + 1} {m₁ = (g.one + 1) * (2 * g.size + 3)} {n₂ = 64} {m₂ = 1216} (omega (arith, p.two_high))
      (mul-le-mul {n₁ = g.one + 1} {m₁ = 2 * g.size + 3} {n₂ = 64} {m₂ = 19} (omega (arith, p.one_high)) (omega (arith, p.size_high)))
