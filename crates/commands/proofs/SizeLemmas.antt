-- How many states the game of a sample has, and how many nodes its tree.
use Rattle.std.proofs.Common.{◌≡◌, ◌≢◌, ℕ, zero, suc, ◌+◌, ◌-◌, ◌*◌, ◌%◌, ◌^◌, ◌<◌, ◌≤◌, ℤ, pos, neg_ℤ, ◌+ℤ◌, Bool, true, false, cond, eqb, ltb, leb, leb-true, List, [], ◌∷◌, length, get_or, map, remove, take, replicate, refl, sym, ap, subst, ◌∙◌, arith}
use Rattle.std.specs.Int.RustNames.{unsigned_abs}
use Rattle.std.specs.List.{Contains, IsDistinct, flat_map, range_with_len}
use Rattle.std.specs.Ordering.{int_eq}
use Rattle.std.specs.Set.{is_member, unique_keys}
use Rattle.std.specs.Cmp.{nat_eq_equiv}
use Rattle.std.proofs.Math.Nat.{mod-lt}
use Rattle.std.proofs.lemmas.Bool.{eq-eqb}
use Rattle.std.proofs.lemmas.Bool.Decides.{Decides-eqb, Decides-int_eq}
use Rattle.std.proofs.lemmas.List.{take_at, length-map, get_or-map}
use Rattle.std.proofs.lemmas.List.Elements.{Contains-append_left, Contains-append_right}
use Rattle.std.proofs.lemmas.List.FromFn.{length-map-range_with_len, get_or-map-range_with_len, get_or-range_with_len, length-range_with_len}
use Rattle.std.proofs.lemmas.Map.Made.{IsDistinct-from_AllPairs, is_member-Decides, length-le_from_is_member}
use Rattle.sums.specs.Sums.{count_below}
use Rattle.sums.proofs.CountLemmas.{count_same, count_constant}
use Rattle.sim_game.specs.Model.{GameModel, Turn, IsTurn, IsGame, Reachable, HasAtMost, after_turn}
use Rattle.sim_game.proofs.StateLemmas.{more_states}
use Rattle.sim_game.proofs.ReachLemmas.{reachable_induction}
use Rattle.plan_book.specs.Serial.{nodes_within, tree_size}
use Rattle.goofspiel.specs.declared.Pay.{Pay}
use Rattle.goofspiel.specs.declared.Pay.TheVariants.{Margin}
use Rattle.goofspiel.specs.declared.Setting.{Setting}
use Rattle.goofspiel.specs.declared.State.{State}
use Rattle.goofspiel.specs.Cards.{members, cards, packed, rising}
use Rattle.goofspiel.specs.laws.Cards.{cards_packed, card_bid}
use Rattle.goofspiel.specs.laws.Game.{goofspiel_is_game}
use Rattle.goofspiel.specs.Position.{prizes_of, IsPosition, IsSettingOf}
use Rattle.goofspiel.specs.Rules.{won, won_by, next_prize, score_after, after_bids, deal_of, state_of, goofspiel_game}
use Rattle.commands.specs.Samples.{sample_cards, rotated_left, sample_prizes}

pub below_five : (P : ℕ → Type 0) → P 0 → P 1 → P 2 → P 3 → P 4 → (n : ℕ) → n < 5 → P n
below_five P a b c d e zero small = a
below_five P a b c d e (suc zero) small = b
below_five P a b c d e (suc (suc zero)) small = c
below_five P a b c d e (suc (suc (suc zero))) small = d
below_five P a b c d e (suc (suc (suc (suc zero)))) small = e
below_five P a b c d e (suc (suc (suc (suc (suc n))))) small = absurd (omega (arith, small))

-- ---- lists
alone : {X : Type 0} (x : X) → Contains (x ∷ []) x
alone x = (0, omega arith, refl)

in_range : (n x : ℕ) → x < n → Contains (range_with_len 0 n) x
in_range n x l = (x, omega (arith, length-range_with_len 0 n), get_or-range_with_len 0 n x x l ∙ omega arith)

-- what stands in one of the parts stands in the whole
in_flat_map : {X Y : Type 0} (f : X → List Y) (xs : List X) (x : X) (y : Y) → Contains xs x → Contains (f x) y → Contains (flat_map f xs) y
in_flat_map f [] x y (k, l, e) there = absurd (omega (arith, l))
in_flat_map f (z ∷ zs) x y (zero, l, e) there = Contains-append_left (f z) (flat_map f zs) y (subst (λ u. Contains (f u) y) (sym e) there)
in_flat_map f (z ∷ zs) x y (suc k, l, e) there = Contains-append_right (f z) (flat_map f zs) y (in_flat_map f zs x y (k, omega (arith, l), e) there)

-- f of each of xs and each of ys
abbrev product : {X Y Z : Type 0} → (X → Y → Z) → List X → List Y → List Z
product f xs ys = flat_map (λ x. map (f x) ys) xs

in_product : {X Y Z : Type 0} (f : X → Y → Z) (xs : List X) (ys : List Y) (x : X) (y : Y) → Contains xs x → Contains ys y → Contains (product f xs ys) (f x y)
in_product f xs ys x y left right =
    in_flat_map (λ u. map (f u) ys) xs x (f x y) left
    (right.0, omega (arith, right.1, length-map ys (f x)), get_or-map (f x) ys right.0 y (f x y) right.1 ∙ ap (f x) right.2)

-- each number stands among the distinct ones
in_unique : (xs : List ℤ) (x : ℤ) → Contains xs x → Contains (unique_keys int_eq xs) x
in_unique [] x at = absurd (omega (arith, at.1))
in_unique (y ∷ ys) x at = kept (in_unique ys x) (is_member int_eq ys y) refl at where
  kept : (Contains ys x → Contains (unique_keys int_eq ys) x) → (b : Bool) → is_member int_eq ys y ≡ b → Contains (y ∷ ys) x → Contains (cond b (unique_keys int_eq ys) (y ∷ unique_keys int_eq ys)) x
  kept rest true is (zero, l, e) = rest (subst (Contains ys) e ((is_member-Decides Decides-int_eq ys y).0 is))
  kept rest true is (suc k, l, e) = rest (k, omega (arith, l), e)
  kept rest false is (zero, l, e) = (0, omega arith, e)
  kept rest false is (suc k, l, e) = let later = rest (k, omega (arith, l), e) in (suc later.0, omega (arith, later.1), later.2)

-- so many different numbers that all stand in a list are no more than the list has
pigeonhole : (count : ℕ) (f : ℕ → ℕ) (xs : List ℕ) → ((i : ℕ) → i < count → Contains xs (f i)) → ((i j : ℕ) → i < j → j < count → f i ≢ f j) → count ≤ length xs
pigeonhole count f xs held apart =
    let found : List ℕ = map f (range_with_len 0 count) in
    let long : length found ≡ count = length-map-range_with_len f 0 count in
    let at : (i d : ℕ) → i < count → get_or found i d ≡ f i = λ i d l. get_or-map-range_with_len f 0 count i i d l (omega arith) in
    let differ : IsDistinct eqb found = IsDistinct-from_AllPairs Decides-eqb found
    (λ i j d l h e. apart i j l (omega (arith, h, long)) (sym (at i d (omega (arith, l, h, long))) ∙ e ∙ at j d (omega (arith, h, long)))) in
    let within : (q : ℕ) → is_member eqb found q ≡ true → is_member eqb xs q ≡ true = λ q is.
    let (k, l, e) = (is_member-Decides Decides-eqb found q).0 is in
    (is_member-Decides Decides-eqb xs q).1 (subst (Contains xs) (sym (at k q (omega (arith, l, long))) ∙ e) (held k (omega (arith, l, long)))) in
    subst (λ n. n ≤ length xs) long (length-le_from_is_member nat_eq_equiv found xs differ within)

-- ---- states, by their keys
-- a game has no more states than a list that holds the key of each
few_keys : {S : Type 0} (m : GameModel S) → IsGame m → (keys : List ℕ) → ((s : S) → Reachable m s → Contains keys (m.key s)) → HasAtMost m (length keys)
few_keys m game keys held = record {
  few = λ count states reached apart. pigeonhole count (λ i. m.key (states i)) keys (λ i l. held (states i) (reached i l))
      (λ i j l h e. apart i j l h (game.same_key (states i) (states j) (reached i (omega (arith, l, h))) (reached j h) e));
}

-- ---- hands and scores
-- the packed hands of so many cards from 1 to 5
abbrev hands : ℕ → List ℕ
hands count = flat_map (λ hand. cond (eqb (length (cards hand)) count) (hand ∷ []) []) (range_with_len 0 32)

-- the hand after so many turns of a game with so many cards, all of 1 to 5
record IsHandAfter (count turns hand : ℕ) : Type 0 where
  small : hand < 32
  left : length (cards hand) + turns ≡ count

hand_turn : (count turns hand i : ℕ) → IsHandAfter count turns hand → i < length (cards hand) → IsHandAfter count (suc turns) (packed (remove (cards hand) i))
hand_turn count turns hand i here l =
    let bid = card_bid hand i (omega (arith, here.small)) l in
    record { small = omega (arith, here.small, bid.rest); left = omega (arith, here.left, ap length bid.again, bid.count) }

in_hands : (count turns hand : ℕ) → IsHandAfter count turns hand → Contains (hands (count - turns)) hand
in_hands count turns hand here =
    let size : eqb (length (cards hand)) (count - turns) ≡ true = eq-eqb _ _ (omega (arith, here.left)) in
    in_flat_map (λ h. cond (eqb (length (cards h)) (count - turns)) (h ∷ []) []) (range_with_len 0 32) hand hand (in_range 32 hand here.small) (rw size (alone hand))

-- the scores after a bid for a prize
abbrev outcomes : ℕ → ℤ → List ℤ
outcomes prize score = (score +ℤ pos prize) ∷ (score +ℤ neg_ℤ (pos prize)) ∷ (score +ℤ pos 0) ∷ []

in_outcomes : (one two prize : ℕ) (score : ℤ) → Contains (outcomes prize score) (score +ℤ won one two prize)
in_outcomes one two prize score = elim (ltb two one) as (λ b. Contains (outcomes prize score) (score +ℤ cond b (pos prize) (cond (ltb one two) (neg_ℤ (pos prize)) (pos 0)))) [
  | true ↦ (0, omega arith, refl)
  | false ↦ elim (ltb one two) as (λ b. Contains (outcomes prize score) (score +ℤ cond b (neg_ℤ (pos prize)) (pos 0))) [
    | true ↦ (1, omega arith, refl)
    | false ↦ (2, omega arith, refl)
  ]
]

-- the scores that the first prizes can make, this many
abbrev scores : ℤ → List ℕ → ℕ → List ℤ
scores first prizes zero = first ∷ []
scores first prizes (suc turns) = unique_keys int_eq (flat_map (outcomes (get_or prizes turns 0)) (scores first prizes turns))

-- ---- the keys of all pairs of hands with all scores
abbrev both_hands : ℕ → ℕ → ℕ
both_hands one two = one * 2 ^ 13 + two

abbrev with_score : ℕ → ℤ → ℕ
with_score both score = both * 2 ^ 13 + unsigned_abs (score +ℤ pos 2300)

abbrev keys_of : List ℕ → List ℤ → List ℕ
keys_of held found = product with_score (product both_hands held held) found

-- ---- the states of the first turns, one by one
abbrev next_states : List ℕ → State → List State
next_states prizes s = product (λ a b. state_of (after_bids Margin (next_prize prizes (deal_of s)) (deal_of s) a b)) (range_with_len 0 (length (cards s.one))) (range_with_len 0 (length (cards s.two)))

abbrev states_after : List ℕ → State → ℕ → List State
states_after prizes root zero = root ∷ []
states_after prizes root (suc turns) = flat_map (next_states prizes) (states_after prizes root turns)

abbrev key_of : State → ℕ
key_of s = with_score (both_hands s.one s.two) s.score

-- after so many turns: later ones by hands and scores
abbrev keys_after : State → List ℕ → ℕ → List ℕ
keys_after root prizes turns = cond (ltb turns 3) (map key_of (states_after prizes root turns)) (keys_of (hands (length prizes - turns)) (scores root.score prizes turns))

abbrev all_keys : State → List ℕ → List ℕ
all_keys root prizes = flat_map (keys_after root prizes) (range_with_len 0 (length prizes + 1))

-- ---- games with cards of 1 to 5
-- the nodes below a state with so many cards on each side
abbrev nodes : ℕ → ℕ
nodes zero = 1
nodes (suc count) = 1 + suc count * (suc count * nodes count)

count_same_all : (n each : ℕ) (f : ℕ → ℕ) → ((a : ℕ) → a < n → f a ≡ each) → count_below n f ≡ n * each
count_same_all n each f same = count_same n f (λ a. each) same ∙ count_constant n each

module _ (g : Setting) (p : IsPosition g) (by_margin : g.pay ≡ Margin) where
  abbrev game : GameModel State
  game = goofspiel_game g

  abbrev prizes : List ℕ
  prizes = prizes_of g

  -- the state after so many turns
  record IsAfter (turns : ℕ) (s : State) : Type 0 where
    one_hand : IsHandAfter (length prizes) turns s.one
    two_hand : IsHandAfter (length prizes) turns s.two
    score_found : Contains (scores g.score prizes turns) s.score
    found : Contains (states_after prizes game.root turns) s

  root_after : g.one < 32 → g.two < 32 → IsAfter 0 game.root
  root_after one two = record {
    one_hand = record { small = one; left = omega (arith, p.one_count, p.prize_count) };
    two_hand = record { small = two; left = omega (arith, p.two_count, p.prize_count) };
    score_found = alone g.score;
    found = alone game.root;
  }

  turn_after : (turns : ℕ) (s : State) (t : Turn) → IsAfter turns s → IsTurn game s t → IsAfter (suc turns) (after_turn game s t)
  turn_after turns s t here turn =
      let place : length prizes - length (cards s.one) ≡ turns = omega (arith, here.one_hand.left) in
      let prize = get_or prizes turns 0 in
      let before = scores g.score prizes turns in
      let change = won (get_or (cards s.one) t.one 0) (get_or (cards s.two) t.two 0) in
      record {
        one_hand = hand_turn (length prizes) turns s.one t.one here.one_hand turn.one_below;
        two_hand = hand_turn (length prizes) turns s.two t.two here.two_hand turn.two_below;
        score_found = subst (λ (pay : Pay). Contains (scores g.score prizes (suc turns)) (score_after pay s.score (won_by (next_prize prizes (deal_of s)) (deal_of s) t.one t.two)))
            (sym by_margin)
            (rw place (in_unique (flat_map (outcomes prize) before) (s.score +ℤ change prize)
            (in_flat_map (outcomes prize) before s.score (s.score +ℤ change prize) here.score_found (in_outcomes (get_or (cards s.one) t.one 0) (get_or (cards s.two) t.two 0) prize s.score))));
        found = subst (λ (pay : Pay). Contains (states_after prizes game.root (suc turns)) (state_of (after_bids pay (next_prize prizes (deal_of s)) (deal_of s) t.one t.two))) (sym by_margin)
            (in_flat_map (next_states prizes) (states_after prizes game.root turns) s (state_of (after_bids Margin (next_prize prizes (deal_of s)) (deal_of s) t.one t.two)) here.found
            (in_product (λ a b. state_of (after_bids Margin (next_prize prizes (deal_of s)) (deal_of s) a b))
            (range_with_len 0 (length (cards s.one))) (range_with_len 0 (length (cards s.two))) t.one t.two
            (in_range (length (cards s.one)) t.one turn.one_below) (in_range (length (cards s.two)) t.two turn.two_below)));
      }

  -- one by one, or by hands and score
  key_found : (turns : ℕ) (s : State) → IsAfter turns s → Contains (keys_after game.root prizes turns) (key_of s)
  key_found turns s here =
      let held = hands (length prizes - turns) in
      let states = states_after prizes game.root turns in
      elim (ltb turns 3) as (λ b. Contains (cond b (map key_of states) (keys_of held (scores g.score prizes turns))) (key_of s)) [
        | true ↦ (here.found.0, omega (arith, here.found.1, length-map states key_of), get_or-map key_of states here.found.0 s (key_of s) here.found.1 ∙ ap key_of here.found.2)
        | false ↦ in_product with_score (product both_hands held held) (scores g.score prizes turns) (both_hands s.one s.two) s.score
            (in_product both_hands held held s.one s.two (in_hands (length prizes) turns s.one here.one_hand) (in_hands (length prizes) turns s.two here.two_hand)) here.score_found
      ]

  key_in : (turns : ℕ) (s : State) → IsAfter turns s → Contains (all_keys game.root prizes) (game.key s)
  key_in turns s here =
      let is : game.key s ≡ key_of s = rw (cards_packed s.one (omega (arith, here.one_hand.small)), cards_packed s.two (omega (arith, here.two_hand.small))) refl in
      subst (Contains (all_keys game.root prizes)) (sym is)
      (in_flat_map (keys_after game.root prizes) (range_with_len 0 (length prizes + 1)) turns (key_of s)
      (in_range (length prizes + 1) turns (omega (arith, here.one_hand.left))) (key_found turns s here))

  few_here : IsAfter 0 game.root → HasAtMost game (length (all_keys game.root prizes))
  few_here start =
      let after : (s : State) → Reachable game s → (turns : ℕ) × IsAfter turns s =
      reachable_induction game (λ s. (turns : ℕ) × IsAfter turns s) (0, start) (λ s t _ here turn. (suc here.0, turn_after here.0 s t here.1 turn)) in
      few_keys game (goofspiel_is_game g p) (all_keys game.root prizes) (λ s r. key_in (after s r).0 s (after s r).1)

  nodes_after : (count turns : ℕ) (s : State) → length (cards s.one) ≡ count → IsAfter turns s → nodes_within game count s ≡ nodes count
  nodes_after zero turns s is here = refl
  nodes_after (suc count) turns s is here =
      let two : length (cards s.two) ≡ suc count = omega (arith, is, here.one_hand.left, here.two_hand.left) in
      let below : ℕ → ℕ → ℕ = λ a b. count_below 1 (λ d. nodes_within game count (game.drawn s a b d)) in
      let each : (a b : ℕ) → a < length (cards s.one) → b < length (cards s.two) → below a b ≡ nodes count = λ a b l h.
      let t : Turn = record { one = a; two = b; draw = 0 } in
      let next = turn_after turns s t here (record { one_below = l; two_below = h; draw_below = omega arith }) in
      let same = nodes_after count (suc turns) (after_turn game s t) (omega (arith, is, here.one_hand.left, next.one_hand.left)) next in
      omega (arith, same) in
      let replies = λ (a : ℕ) (l : a < length (cards s.one)). count_same_all (length (cards s.two)) (nodes count) (below a) (λ b h. each a b l h) in
      ap (λ n. 1 + n) (count_same_all (length (cards s.one)) (length (cards s.two) * nodes count) _ replies) ∙ rw (is, two) refl

-- ---- the samples
-- both sides with all five cards
abbrev all_held : State
all_held = record { one = 31; two = 31; score = pos 0 }

few_below : (n : ℕ) → n < 5 → length (all_keys all_held (rotated_left n sample_cards)) ≤ 3682
unfolding members
few_below n small = leb-true _ 3682 (below_five (λ n. leb (length (all_keys all_held (rotated_left n sample_cards))) 3682 ≡ true) refl refl refl refl refl n small)

-- the hand of all five cards
all_cards : (hand : ℕ) → hand < 2 ^ 13 → cards hand ≡ rising sample_cards → (hand < 32) × (length (cards hand) ≡ 5) × (hand ≡ 31)
unfolding rising
all_cards hand small is = let e : hand ≡ 31 = sym (cards_packed hand small) ∙ ap packed is in (omega (arith, e), ap length is, e)

module _ (n : ℕ) (g : Setting) (p : IsPosition g) (is : IsSettingOf sample_cards sample_cards (sample_prizes n) (pos 0) Margin g) where
  prizes_are : prizes_of g ≡ sample_prizes n
  prizes_are =
      let listed : take (length (sample_prizes n)) g.prizes ≡ sample_prizes n =
      rw is.prizes_are (take_at (sample_prizes n) (replicate (13 - length (sample_prizes n)) 0) (length (sample_prizes n)) refl) in
      ap (λ count. take count g.prizes) is.count_is ∙ listed

  start : IsAfter g p is.pay_is 0 (goofspiel_game g).root
  start = root_after g p is.pay_is (all_cards g.one is.one_small is.one_is).0 (all_cards g.two is.two_small is.two_is).0

  pub rank_is : (goofspiel_game g).rank (goofspiel_game g).root ≡ 5
  rank_is = (all_cards g.one is.one_small is.one_is).1

  pub few_states : HasAtMost (goofspiel_game g) 3682
  few_states =
      let made : ℕ → ℕ → ℤ → State = λ one two score. record { one = one; two = two; score = score } in
      let root : made g.one g.two g.score ≡ all_held = rw ((all_cards g.one is.one_small is.one_is).2, (all_cards g.two is.two_small is.two_is).2, is.score_is) refl in
      let few : length (all_keys (made g.one g.two g.score) (prizes_of g)) ≤ 3682 = rw (root, prizes_are) (few_below (n % 5) (mod-lt n (omega arith))) in
      more_states (goofspiel_game g) _ 3682 (few_here g p is.pay_is start) few

  pub size_is : tree_size (goofspiel_game g) (goofspiel_game g).root ≡ 32826
  size_is = nodes_after g p is.pay_is ((goofspiel_game g).rank (goofspiel_game g).root) 0 (goofspiel_game g).root refl start ∙ ap nodes rank_is
