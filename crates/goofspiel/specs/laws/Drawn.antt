-- The rules of Goofspiel with drawn prizes make a game.
use Rattle.std.proofs.Common.{◌≡◌, ℕ, zero, suc, ◌+◌, ◌-◌, ◌*◌, ◌/◌, ◌<◌, ◌≤◌, ◌≢◌, ◌^◌, max, ◌&&◌, eqb, leb, true, List, [], ◌∷◌, length, get_or, take, sum, refl, sym, ap, subst, ◌∙◌, inl, inr, arith, add-one}
use Rattle.std.proofs.Math.Nat.{pow-succ', pow-le-pow_right}
use Rattle.std.proofs.lemmas.Bool.{agree_below_at, and_parts, cases_lt, eqb-true, leb-true}
use Rattle.std.proofs.lemmas.Int.{ints}
use Rattle.std.proofs.lemmas.List.{get_or_past, get_or-take, nil_from_length, take_all}
use Rattle.std.proofs.lemmas.List.Edits.{get_or-remove_below, get_or-remove_above}
use Rattle.std.proofs.lemmas.List.FromFn.{length-range_with_len, get_or-range_with_len}
use Rattle.std.proofs.lemmas.List.Sums.{sum_by-remove, sum_by-cons, sum_by_more}
use Rattle.std.proofs.lemmas.Nat.{pow_pos}
use Rattle.std.specs.List.{remove, range_with_len, sum_by}
use Rattle.sim_game.specs.Model.{Turn, IsTurn, Reachable, IsGame, after_turn, whole_chance}
use Rattle.sim_game.proofs.ReachLemmas.{reachable_induction}
use Rattle.sums.proofs.CountLemmas.{count_constant}
use Rattle.goofspiel.specs.declared.drawn.DrawnState.{DrawnState}
use Rattle.goofspiel.specs.declared.Setting.{Setting}
use Rattle.goofspiel.specs.Cards.{members, cards, places, packed_from}
use Rattle.state_key.proofs.SetLemmas.{members_none, members_even, members_odd}
use Rattle.goofspiel.specs.laws.Cards.{few_members, few_cards, set_packed, taken_out}
use Rattle.goofspiel.specs.Deals.{FitsKey, IsDealt}
use Rattle.goofspiel.specs.laws.Deals.{IsBidFor, IsSumRange, IsTurnRange, sum_range_of, turn_range, pay_range, key_small, keys_apart, hand_count, few_prizes, total_high, dealt_first, small_score, bid_for}
use Rattle.goofspiel.specs.DrawnRules.{DrawnDeal, after_draw, drawn_deal_of, draw_count, drawn_left, drawn_key_of, drawn_game}
use Rattle.goofspiel.specs.Position.{prizes_of, IsPosition}
use Rattle.goofspiel.specs.Rules.{deal_of, won_by, goofspiel_key}

-- ---- equal weights
-- so many equal weights sum to the whole
pub share : (u : ℕ) → 1 ≤ u → u ≤ 13 → (u * (whole_chance / u) ≡ whole_chance) × (1 ≤ whole_chance / u)
share zero l h = absurd (omega arith)
share (suc u) l h =
    let both = and_parts _ _ (agree_below_at (λ k. eqb (suc k * (whole_chance / suc k)) whole_chance && leb 1 (whole_chance / suc k)) (λ _. true) 13 u refl (omega arith)) in
    (eqb-true _ _ both.0, leb-true _ _ both.1)

-- ---- the places from 1 on
pub members_empty : (n low : ℕ) → members n low 0 ≡ []
members_empty zero low = members_none low 0
members_empty (suc n) low = let e : 2 * 0 ≡ 0 = omega arith in subst (λ (m : ℕ). members (suc n) low m ≡ []) e (members_even n low 0 ∙ members_empty n (suc low))

pub members_full : (n m low : ℕ) → m ≤ n → members n low (2 ^ m - 1) ≡ range_with_len low m
members_full n zero low h = members_empty n low
members_full zero (suc m) low h = absurd (omega arith)
members_full (suc n) (suc m) low h =
    let e : 2 ^ suc m - 1 ≡ 2 * (2 ^ m - 1) + 1 = omega (arith, pow-succ' 2 m, pow_pos m) in
    ap (members (suc n) low) e ∙ members_odd n low (2 ^ m - 1) ∙ ap (λ (xs : List ℕ). low ∷ xs) (members_full n m (suc low) (omega arith))
    ∙ ap (λ (l : ℕ). low ∷ range_with_len l m) (sym (add-one low))

pub later_places : (m : ℕ) → m ≤ 12 → places (2 * (2 ^ m - 1)) ≡ range_with_len 1 m
later_places m h = members_even 12 0 (2 ^ m - 1) ∙ members_full 12 m 1 h

pub later_small : (m : ℕ) → m ≤ 12 → 2 * (2 ^ m - 1) < 2 ^ 13
later_small m h = omega (arith, pow-le-pow_right {n = 2} (omega arith) {i = m} {j = 12} h)

pub later_packed : (m : ℕ) → m ≤ 12 → packed_from 0 (range_with_len 1 m) ≡ 2 * (2 ^ m - 1)
later_packed m h = ap (packed_from 0) (sym (later_places m h)) ∙ set_packed 0 (2 * (2 ^ m - 1)) (later_small m h)

-- ---- a place is drawn, where there is one
pub record IsDrawnOut (set draw : ℕ) : Type 0 where
  pub small : packed_from 0 (remove (places set) draw) < 2 ^ 13
  pub again : places (packed_from 0 (remove (places set) draw)) ≡ remove (places set) draw
  pub count : length (remove (places set) draw) ≡ length (places set) - 1

pub nothing_left : (set draw : ℕ) → length (places set) ≡ 0 → draw ≡ 0 → remove (places set) draw ≡ []
nothing_left set draw none first = ap (λ (k : ℕ). remove (places set) k) first ∙ ap (λ (xs : List ℕ). remove xs 0) (nil_from_length (places set) none)

pub some_left : (set : ℕ) → set < 2 ^ 13 → set ≢ 0 → 1 ≤ length (places set)
some_left set h some = elim (cases_lt 0 (length (places set))) [
  | inl left ↦ left
  | inr none ↦ absurd (some (sym (set_packed 0 set h) ∙ ap (packed_from 0) (nil_from_length (places set) (omega arith))))
]

pub drawn_out : (set draw : ℕ) → set < 2 ^ 13 → draw < max 1 (length (places set)) → IsDrawnOut set draw
drawn_out set draw h below = elim (cases_lt draw (length (places set))) [
  | inl place ↦
      let out = taken_out 0 set draw h place in
      record { small = out.small; again = out.again; count = omega (arith, out.count) }
  | inr past ↦
      let none : length (places set) ≡ 0 = omega arith in
      let left = nothing_left set draw none (omega arith) in
      let packed : packed_from 0 (remove (places set) draw) ≡ 0 = ap (packed_from 0) left in
      record {
        small = omega (arith, packed);
        again = ap places packed ∙ members_empty 13 0 ∙ sym left;
        count = omega (arith, none, ap length left);
      }
]

-- ---- the sum of the prizes
sum_range : (n low : ℕ) (xs : List ℕ) → low + n ≤ length xs → sum (take low xs) + sum_by (λ i. get_or xs i 0) (range_with_len low n) ≡ sum (take (low + n) xs)
sum_range zero low xs h = let e : low + 0 ≡ low = omega arith in rw e (omega arith)
sum_range (suc n) low xs h =
    let e : low + 1 + n ≡ low + suc n = omega arith in
    let here = sum_by_more (λ x. x) xs low 0 (omega arith) in
    let front = sum_by-cons (λ i. get_or xs i 0) low (range_with_len (low + 1) n) in
    subst (λ (k : ℕ). sum (take low xs) + sum_by (λ i. get_or xs i 0) (range_with_len low (suc n)) ≡ sum (take k xs)) e (omega (arith, sum_range n (low + 1) xs (omega arith), here, front))

-- ---- states
pub same_drawn_state : (s t : DrawnState) → s.hands ≡ t.hands → s.undrawn ≡ t.undrawn → s.place ≡ t.place → s ≡ t
same_drawn_state s t p q r = λ i. record { hands = p i; undrawn = q i; place = r i }

pub same_drawn_deal : (d e : DrawnDeal) → d.hands ≡ e.hands → d.undrawn ≡ e.undrawn → d.place ≡ e.place → d ≡ e
same_drawn_deal d e p q r = λ i. record { hands = p i; undrawn = q i; place = r i }

abbrev pub prize_at : Setting → ℕ → ℕ
prize_at g place = get_or (prizes_of g) place 0

-- what holds of each reachable state
pub record IsDrawnSound (g : Setting) (s : DrawnState) : Type 0 where
  -- the sum of the prizes that were bid for
  pub spent : ℕ
  pub hands : IsDealt g spent s.hands
  pub spent_high : spent ≤ sum (prizes_of g)
  pub spent_rest : 1 ≤ length (cards s.hands.one) → spent + prize_at g s.place + sum_by (prize_at g) (places s.undrawn) ≤ sum (prizes_of g)
  pub undrawn_small : s.undrawn < 2 ^ 13
  pub left : length (places s.undrawn) ≡ length (cards s.hands.one) - 1
  pub undrawn_below : (i : ℕ) → i < length (places s.undrawn) → get_or (places s.undrawn) i 0 < g.count
  pub place_below : s.place < max 1 g.count
  pub end_place : length (cards s.hands.one) ≡ 0 → s.place ≡ 0

module _ (g : Setting) (p : IsPosition g) where
  few_later : g.count - 1 ≤ 12
  few_later = omega (arith, few_prizes g p)

  pub root_undrawn : places (drawn_game g).root.undrawn ≡ range_with_len 1 (g.count - 1)
  root_undrawn = ap places (later_packed (g.count - 1) few_later) ∙ later_places (g.count - 1) few_later

  -- the first prize and the others
  root_rest : 1 ≤ length (cards g.one) → prize_at g 0 + sum_by (prize_at g) (range_with_len 1 (g.count - 1)) ≡ sum (prizes_of g)
  root_rest some =
      let prizes = prizes_of g in
      let all : 1 + (g.count - 1) ≡ length prizes = omega (arith, some, p.one_count, p.prize_count) in
      let whole : sum (take (1 + (g.count - 1)) prizes) ≡ sum prizes = ap sum (take_all (1 + (g.count - 1)) prizes (omega (arith, all))) in
      omega (arith, whole, sum_range (g.count - 1) 1 prizes (omega (arith, all)), sum_by_more (λ x. x) prizes 0 0 (omega (arith, all)))

  sound_root : IsDrawnSound g (drawn_game g).root
  sound_root =
      let len : length (places (drawn_game g).root.undrawn) ≡ g.count - 1 = ap length root_undrawn ∙ length-range_with_len 1 (g.count - 1) in
      record {
        spent = 0;
        hands = dealt_first g p;
        spent_high = omega arith;
        spent_rest = λ some. let rest = root_rest some in let same = ap (sum_by (prize_at g)) root_undrawn in omega (arith, rest, same);
        undrawn_small = omega (arith, later_packed (g.count - 1) few_later, later_small (g.count - 1) few_later);
        left = omega (arith, len, p.one_count);
        undrawn_below = λ i below.
            let place : i < g.count - 1 = omega (arith, below, len) in
            let at : get_or (range_with_len 1 (g.count - 1)) i 0 ≡ 1 + i = get_or-range_with_len 1 (g.count - 1) i 0 place in
            subst (λ (xs : List ℕ). get_or xs i 0 < g.count) (sym root_undrawn) (omega (arith, at, place));
        place_below = omega arith;
        end_place = λ none. refl;
      }

  pub drawn_bids_for : (s : DrawnState) (t : Turn) (here : IsDrawnSound g s) → IsTurn (drawn_game g) s t → IsBidFor g here.spent (prize_at g s.place) s.hands t.one t.two
  drawn_bids_for s t here turn = bid_for g p here.spent (prize_at g s.place) s.hands t.one t.two here.hands turn.one_below turn.two_below

  next_place : (s : DrawnState) (t : Turn) → IsDrawnSound g s → (after_turn (drawn_game g) s t).place < max 1 g.count
  next_place s t here = elim (cases_lt t.draw (length (places s.undrawn))) [
    | inl place ↦ let h = here.undrawn_below t.draw place in omega (arith, h)
    | inr past ↦ let e : get_or (places s.undrawn) t.draw 0 ≡ 0 = get_or_past (places s.undrawn) t.draw 0 past in omega (arith, e)
  ]

  still_below : (s : DrawnState) (draw : ℕ) → IsDrawnSound g s → draw < max 1 (length (places s.undrawn)) → (i : ℕ)
      → i < length (places s.undrawn) - 1 → get_or (remove (places s.undrawn) draw) i 0 < g.count
  still_below s draw here below i h =
      let xs = places s.undrawn in
      let place : draw < length xs = omega arith in
      elim (cases_lt i draw) [
        | inl before ↦ let e = get_or-remove_below xs draw 0 i before place in let b = here.undrawn_below i (omega arith) in omega (arith, e, b)
        | inr after ↦ let e = get_or-remove_above xs draw 0 i after place in let b = here.undrawn_below (i + 1) (omega arith) in omega (arith, e, b)
      ]

  sound_turn : (s : DrawnState) (t : Turn) → IsDrawnSound g s → IsTurn (drawn_game g) s t → IsDrawnSound g (after_turn (drawn_game g) s t)
  sound_turn s t here turn =
      let xs = places s.undrawn in
      let bids = drawn_bids_for s t here turn in
      let out = drawn_out s.undrawn t.draw here.undrawn_small turn.draw_below in
      let fewer : length (places (after_turn (drawn_game g) s t).undrawn) ≡ length xs - 1 = ap length out.again ∙ out.count in
      let rest = here.spent_rest (omega (arith, turn.one_below)) in
      record {
        spent = here.spent + prize_at g s.place;
        hands = bids.dealt;
        spent_high = omega (arith, rest);
        spent_rest = λ some.
            let place : t.draw < length xs = omega (arith, turn.draw_below, here.left, bids.fewer, some) in
            omega (arith, rest, sum_by-remove (prize_at g) xs t.draw 0 place, ap (sum_by (prize_at g)) out.again);
        undrawn_small = out.small;
        left = omega (arith, fewer, bids.fewer, here.left);
        undrawn_below = λ i h. subst (λ (ys : List ℕ). get_or ys i 0 < g.count) (sym out.again) (still_below s t.draw here turn.draw_below i (omega (arith, h, fewer)));
        place_below = next_place s t here;
        end_place = λ none. get_or_past xs t.draw 0 (omega (arith, none, bids.fewer, here.left));
      }

  pub drawn_sound : (s : DrawnState) → Reachable (drawn_game g) s → IsDrawnSound g s
  drawn_sound = reachable_induction (drawn_game g) (IsDrawnSound g) sound_root (λ s t _ here turn. sound_turn s t here turn)

  pub hands_small : (s : DrawnState) → IsDrawnSound g s → FitsKey s.hands
  hands_small s here = small_score g p here.spent s.hands (omega (arith, here.spent_high, total_high g p)) here.hands

  pub place_small : (s : DrawnState) → IsDrawnSound g s → s.place < 13
  place_small s here = omega (arith, here.place_below, few_prizes g p)

  -- the prize that is bid for, in the array
  pub drawn_prize_is : (s : DrawnState) → IsDrawnSound g s → 1 ≤ length (cards s.hands.one) → get_or g.prizes s.place 0 ≡ prize_at g s.place
  drawn_prize_is s here some = sym (get_or-take g.count g.prizes s.place 0 (omega (arith, here.place_below, here.hands.few, some)))

  -- ---- the prizes that are still to be won
  pub left_is : (s : DrawnState) → IsDrawnSound g s → 1 ≤ length (cards s.hands.one)
      → drawn_left (prizes_of g) (drawn_deal_of s) ≡ prize_at g s.place + sum_by (prize_at g) (places s.undrawn)
  left_is s here some =
      ap (sum_by (prize_at g)) (take_all (length (cards s.hands.one)) (s.place ∷ places s.undrawn) (omega (arith, here.left, some)))
      ∙ sum_by-cons (prize_at g) s.place (places s.undrawn)

  pub left_none : (s : DrawnState) → length (cards s.hands.one) ≡ 0 → drawn_left (prizes_of g) (drawn_deal_of s) ≡ 0
  left_none s none = ap (λ (n : ℕ). sum_by (prize_at g) (take n (s.place ∷ places s.undrawn))) none

  pub left_high : (s : DrawnState) → IsDrawnSound g s → drawn_left (prizes_of g) (drawn_deal_of s) ≤ sum (prizes_of g)
  left_high s here = elim (cases_lt 0 (length (cards s.hands.one))) [
    | inl some ↦ let rest = here.spent_rest (omega (arith, some)) in let is = left_is s here (omega (arith, some)) in omega (arith, rest, is)
    | inr none ↦ let is = left_none s (omega (arith, none)) in omega (arith, is)
  ]

  -- the prize that is bid for is one of them, and gone after the turn
  left_less : (s : DrawnState) (t : Turn) → IsDrawnSound g s → IsTurn (drawn_game g) s t
      → prize_at g s.place + drawn_left (prizes_of g) (drawn_deal_of (after_turn (drawn_game g) s t)) ≤ drawn_left (prizes_of g) (drawn_deal_of s)
  left_less s t here turn =
      let xs = places s.undrawn in
      let next = after_turn (drawn_game g) s t in
      let bids = drawn_bids_for s t here turn in
      let is = left_is s here (omega (arith, turn.one_below)) in
      elim (cases_lt 0 (length (cards next.hands.one))) [
        | inl some ↦
            let out = drawn_out s.undrawn t.draw here.undrawn_small turn.draw_below in
            let place : t.draw < length xs = omega (arith, turn.draw_below, here.left, bids.fewer, some) in
            let after = left_is next (sound_turn s t here turn) (omega (arith, some)) in
            let taken = sum_by-remove (prize_at g) xs t.draw 0 place in
            let again = ap (sum_by (prize_at g)) out.again in
            omega (arith, is, after, taken, again)
        | inr none ↦ let after = left_none next (omega (arith, none)) in omega (arith, is, after)
      ]

  drawn_range : (s : DrawnState) → IsDrawnSound g s → IsSumRange g.pay g.score (sum (prizes_of g)) (drawn_left (prizes_of g) (drawn_deal_of s)) s.hands.score
  drawn_range s here =
      sum_range_of g.pay g.score (sum (prizes_of g)) here.spent (drawn_left (prizes_of g) (drawn_deal_of s)) s.hands.score here.spent_high (left_high s here) here.hands.near

  reward_range : (s : DrawnState) (t : Turn) → IsDrawnSound g s → IsTurn (drawn_game g) s t
      → IsTurnRange g.pay (drawn_game g).low (drawn_game g).high s.hands.score (won_by (prize_at g s.place) (deal_of s.hands) t.one t.two)
      (drawn_left (prizes_of g) (drawn_deal_of (after_turn (drawn_game g) s t))) (drawn_left (prizes_of g) (drawn_deal_of s))
  reward_range s t here turn =
      turn_range g.pay (drawn_game g).low (drawn_game g).high s.hands.score (get_or (cards s.hands.one) t.one 0) (get_or (cards s.hands.two) t.two 0) (prize_at g s.place)
      (drawn_left (prizes_of g) (drawn_deal_of (after_turn (drawn_game g) s t))) (drawn_left (prizes_of g) (drawn_deal_of s)) (left_less s t here turn)

  -- ---- keys
  pub drawn_key_is : (s : DrawnState) → IsDrawnSound g s → drawn_key_of (drawn_deal_of s) ≡ (goofspiel_key (deal_of s.hands) * 2 ^ 13 + s.undrawn) * 2 ^ 4 + s.place
  drawn_key_is s here = ap (λ (m : ℕ). (goofspiel_key (deal_of s.hands) * 2 ^ 13 + m) * 2 ^ 4 + s.place) (set_packed 0 s.undrawn here.undrawn_small)

  split_key : (a b c a' b' c' : ℕ) → b < 2 ^ 13 → b' < 2 ^ 13 → c < 16 → c' < 16 → (a * 2 ^ 13 + b) * 2 ^ 4 + c ≡ (a' * 2 ^ 13 + b') * 2 ^ 4 + c' → (a ≡ a') × (b ≡ b') × (c ≡ c')
  split_key a b c a' b' c' h h' k k' e = (omega (arith, e), omega (arith, e), omega (arith, e))

  drawn_keys_apart : (s t : DrawnState) → IsDrawnSound g s → IsDrawnSound g t → drawn_key_of (drawn_deal_of s) ≡ drawn_key_of (drawn_deal_of t) → s ≡ t
  drawn_keys_apart s t here there e =
      let parts = split_key (goofspiel_key (deal_of s.hands)) s.undrawn s.place (goofspiel_key (deal_of t.hands)) t.undrawn t.place here.undrawn_small there.undrawn_small
      (omega (arith, place_small s here)) (omega (arith, place_small t there)) (sym (drawn_key_is s here) ∙ e ∙ drawn_key_is t there) in
      same_drawn_state s t (keys_apart s.hands t.hands (hands_small s here) (hands_small t there) parts.0) parts.1 parts.2

  drawn_key_small : (s : DrawnState) → IsDrawnSound g s → drawn_key_of (drawn_deal_of s) < 2 ^ 63
  drawn_key_small s here = rw (drawn_key_is s here) (omega (arith, key_small s.hands (hands_small s here), here.undrawn_small, place_small s here))

  -- ---- draws
  draws_range : (s : DrawnState) → IsDrawnSound g s → (1 ≤ draw_count (drawn_deal_of s)) × (draw_count (drawn_deal_of s) ≤ 13)
  draws_range s here = (omega arith, omega (arith, few_members 0 s.undrawn here.undrawn_small))

  pub drawn_share : (s : DrawnState) → IsDrawnSound g s → draw_count (drawn_deal_of s) * (whole_chance / draw_count (drawn_deal_of s)) ≡ whole_chance
  drawn_share s here = let r = draws_range s here in (share (draw_count (drawn_deal_of s)) r.0 r.1).0

  pub drawn_is_game : IsGame (drawn_game g)
  drawn_is_game =
      let range = pay_range g.pay g.score (sum (prizes_of g)) (total_high g p) p.score_small in
      record {
        width_low = omega arith;
        width_high = omega (arith, few_cards g.one p.one_small);
        low_least = omega (arith, ints, range.low_least);
        low_high = range.low_high;
        high_most = omega (arith, ints, range.high_most);
        end_moves = λ side s r h. let here = drawn_sound s r in hand_count g here.spent side s.hands here.hands ∙ h;
        other_moves = λ side s r h. let here = drawn_sound s r in omega (arith, hand_count g here.spent side s.hands here.hands, h);
        moves_high = λ side s r. let here = drawn_sound s r in omega (arith, hand_count g here.spent side s.hands here.hands, here.hands.few, p.one_count);
        rank_high = λ s r. omega (arith, few_cards s.hands.one (drawn_sound s r).hands.one_small);
        rank_falls = λ s t r turn. let fewer = (drawn_bids_for s t (drawn_sound s r) turn).fewer in omega (arith, fewer);
        least_low = λ s r. (drawn_range s (drawn_sound s r)).least_low;
        most_high = λ s r. (drawn_range s (drawn_sound s r)).most_high;
        payoff_low = λ s r h. (drawn_range s (drawn_sound s r)).payoff_low;
        payoff_high = λ s r h. (drawn_range s (drawn_sound s r)).payoff_high;
        reward_low = λ s t r turn. (reward_range s t (drawn_sound s r) turn).reward_low;
        reward_high = λ s t r turn. (reward_range s t (drawn_sound s r) turn).reward_high;
        same_key = λ s t r r' e. drawn_keys_apart s t (drawn_sound s r) (drawn_sound t r') e;
        key_high = λ s r. drawn_key_small s (drawn_sound s r);
        draws_low = λ s a b r h h'. (draws_range s (drawn_sound s r)).0;
        draws_high = λ s a b r h h'. (draws_range s (drawn_sound s r)).1;
        chance_low = λ s t r h. let d = draws_range s (drawn_sound s r) in (share (draw_count (drawn_deal_of s)) d.0 d.1).1;
        chance_sum = λ s a b r h h'. count_constant (draw_count (drawn_deal_of s)) (whole_chance / draw_count (drawn_deal_of s)) ∙ drawn_share s (drawn_sound s r);
        one_draw = λ s a b h r h' h''. absurd (cc);
      }

  pub drawn_follows : (s : DrawnState) (t : Turn) → IsDrawnSound g s → IsTurn (drawn_game g) s t
      → drawn_deal_of (after_turn (drawn_game g) s t) ≡ after_draw g.pay (prizes_of g) (drawn_deal_of s) t.one t.two t.draw
  drawn_follows s t here turn = same_drawn_deal _ _ (drawn_bids_for s t here turn).follows (drawn_out s.undrawn t.draw here.undrawn_small turn.draw_below).again refl
