-- The rules of Goofspiel with drawn prizes, on the hands of cards, a score and the places of the prizes.
use Rattle.std.specs.Prelude.{◌≡◌, ◌↔◌, ℕ, ◌+◌, ◌-◌, ◌*◌, ◌/◌, ◌<◌, ◌^◌, max, ℤ, false, List, [], ◌∷◌, length, remove, slice_index, slice_index_or, take, sum, All}
use Rattle.std.specs.List.{range_with_len, sum_by}
use Rattle.std.specs.List.Sorted.{IsStrictlyIncreasing}
use Rattle.sim_game.specs.declared.Side.{Side}
use Rattle.sim_game.specs.Model.{GameModel, Turn, IsTurn, IsEnd, Reachable, after_turn, whole_chance}
use Rattle.goofspiel.specs.declared.drawn.DrawnState.{DrawnState}
use Rattle.goofspiel.specs.declared.Pay.{Pay}
use Rattle.goofspiel.specs.declared.Pay.TheVariants.{Prizes}
use Rattle.goofspiel.specs.declared.Setting.{Setting}
use Rattle.goofspiel.specs.Cards.{cards, places, packed_from, rising}
use Rattle.goofspiel.specs.Position.{prizes_of, IsSettingOf}
use Rattle.goofspiel.specs.Rules.{Deal, IsDeal, deal_of, state_of, goofspiel_root, hand_of, after_bids, won_by, paid, pay_of, low_of, high_of, least_sum, most_sum, goofspiel_key}

-- ---- the rules
-- the hands and the score, the places of the prizes that are not drawn yet, rising, and that of the prize that is bid for
pub record DrawnDeal : Type 0 where
  pub hands : Deal
  pub undrawn : List ℕ
  pub place : ℕ

-- with this many prizes: one is bid for, and one is left to be drawn for each further card; at an end the place is 0
pub record IsDrawnDeal (count : ℕ) (d : DrawnDeal) : Type 0 where
  pub hands : IsDeal d.hands
  pub undrawn_rise : IsStrictlyIncreasing d.undrawn
  pub undrawn_within : All (λ place. place < count) d.undrawn
  pub undrawn_length : length d.undrawn ≡ length d.hands.one - 1
  pub place_within : d.place < max 1 count
  pub end_place : d.hands.one ≡ [] → d.place ≡ 0

-- the first prize is at place 0, and the others are not drawn yet
abbrev pub first_deal : List ℕ → List ℕ → List ℕ → ℤ → DrawnDeal
first_deal one two prizes score = record {
  hands = record { one = rising one; two = rising two; score = score };
  undrawn = range_with_len 1 (length prizes - 1);
  place = 0;
}

-- a draw for each place that is left to be drawn, and one where none is
abbrev pub draw_count : DrawnDeal → ℕ
draw_count d = max 1 (length d.undrawn)

-- both sides bid for the prize at the current place; then the draw, numbered from 0, tells which undrawn place leaves
-- the list and is the current one from now on; where none is left, no prize follows and the place is 0
abbrev pub after_draw : Pay → List ℕ → DrawnDeal → ℕ → ℕ → ℕ → DrawnDeal
after_draw pay prizes d one two draw = record {
  hands = after_bids pay (slice_index prizes d.place) d.hands one two;
  undrawn = remove d.undrawn draw;
  place = slice_index_or d.undrawn draw 0;
}

-- the places of the prizes that are still to be won, one for each card: the current one, then those that are not drawn
abbrev pub places_left : DrawnDeal → List ℕ
places_left d = take (length d.hands.one) (d.place ∷ d.undrawn)

-- the sum of the prizes that are still to be won
abbrev pub drawn_left : List ℕ → DrawnDeal → ℕ
drawn_left prizes d = sum_by (slice_index prizes) (places_left d)

-- the key of the hands and the score, the undrawn places in 13 bits and the current place in 4
abbrev pub drawn_key_of : DrawnDeal → ℕ
drawn_key_of d = (goofspiel_key d.hands * 2 ^ 13 + packed_from 0 d.undrawn) * 2 ^ 4 + d.place

-- ---- the game
-- the deal that a state stands for
abbrev pub drawn_deal_of : DrawnState → DrawnDeal
drawn_deal_of s = record { hands = deal_of s.hands; undrawn = places s.undrawn; place = s.place }

-- the state that stands for a deal
abbrev pub drawn_state_of : DrawnDeal → DrawnState
drawn_state_of d = record { hands = state_of d.hands; undrawn = packed_from 0 d.undrawn; place = d.place }

abbrev pub drawn_root : Setting → DrawnState
drawn_root g = record { hands = goofspiel_root g; undrawn = packed_from 0 (range_with_len 1 (g.count - 1)); place = 0 }

abbrev pub drawn_game : Setting → GameModel DrawnState
drawn_game g = record {
  root = drawn_root g;
  moves = λ side s. length (hand_of side (deal_of s.hands));
  draws = λ s one two. draw_count (drawn_deal_of s);
  chance = λ s one two draw. whole_chance / draw_count (drawn_deal_of s);
  drawn = λ s one two draw. drawn_state_of (after_draw g.pay (prizes_of g) (drawn_deal_of s) one two draw);
  payoff = λ s. pay_of g.pay s.hands.score;
  reward = λ s one two draw. paid g.pay (won_by (slice_index (prizes_of g) s.place) (deal_of s.hands) one two);
  least = λ s. least_sum g s.hands.score (drawn_left (prizes_of g) (drawn_deal_of s));
  most = λ s. most_sum g s.hands.score (drawn_left (prizes_of g) (drawn_deal_of s));
  rank = λ s. length (cards s.hands.one);
  key = λ s. drawn_key_of (drawn_deal_of s);
  label = λ side s i. slice_index (hand_of side (deal_of s.hands)) i;
  low = low_of g.pay g.score (sum (prizes_of g));
  high = high_of g.pay g.score (sum (prizes_of g));
  width = max 1 (length (cards g.one));
  chance_free = false;
}

-- the states stand for deals, and each call answers by the rules on them
pub record KeepsDrawnRules (g : Setting) : Type 0 where
  pub root : (one two prizes : List ℕ) (score : ℤ) (pay : Pay) → IsSettingOf one two prizes score pay g
      → drawn_deal_of (drawn_game g).root ≡ first_deal one two prizes score
  pub prizes : (one two prizes : List ℕ) (score : ℤ) (pay : Pay) → IsSettingOf one two prizes score pay g → prizes_of g ≡ prizes
  pub is_deal : (s : DrawnState) → Reachable (drawn_game g) s → IsDrawnDeal g.count (drawn_deal_of s)
  pub follows : (s : DrawnState) (t : Turn) → Reachable (drawn_game g) s → IsTurn (drawn_game g) s t
      → drawn_deal_of (after_turn (drawn_game g) s t) ≡ after_draw g.pay (prizes_of g) (drawn_deal_of s) t.one t.two t.draw
  pub draws : (s : DrawnState) (one two : ℕ) → (drawn_game g).draws s one two ≡ draw_count (drawn_deal_of s)
  -- all draws have one weight
  pub chance : (s : DrawnState) (one two draw : ℕ) → Reachable (drawn_game g) s
      → draw_count (drawn_deal_of s) * (drawn_game g).chance s one two draw ≡ whole_chance
  pub moves : (side : Side) (s : DrawnState) → (drawn_game g).moves side s ≡ length (hand_of side (drawn_deal_of s).hands)
  pub label : (side : Side) (s : DrawnState) (i : ℕ) → (drawn_game g).label side s i ≡ slice_index (hand_of side (drawn_deal_of s).hands) i
  pub rank : (s : DrawnState) → (drawn_game g).rank s ≡ length (drawn_deal_of s).hands.one
  pub ends : (s : DrawnState) → IsEnd (drawn_game g) s ↔ ((drawn_deal_of s).hands.one ≡ [])
  pub payoff : (s : DrawnState) → (drawn_game g).payoff s ≡ pay_of g.pay (drawn_deal_of s).hands.score
  pub reward : (s : DrawnState) (one two draw : ℕ) → (drawn_game g).reward s one two draw
      ≡ paid g.pay (won_by (slice_index (prizes_of g) (drawn_deal_of s).place) (drawn_deal_of s).hands one two)
  pub least : (s : DrawnState) → (drawn_game g).least s ≡ least_sum g (drawn_deal_of s).hands.score (drawn_left (prizes_of g) (drawn_deal_of s))
  pub most : (s : DrawnState) → (drawn_game g).most s ≡ most_sum g (drawn_deal_of s).hands.score (drawn_left (prizes_of g) (drawn_deal_of s))
  -- where prizes are paid when they are won, the score never changes
  pub same_score : (s : DrawnState) → g.pay ≡ Prizes → Reachable (drawn_game g) s → (drawn_deal_of s).hands.score ≡ g.score
  pub key : (s : DrawnState) → (drawn_game g).key s ≡ drawn_key_of (drawn_deal_of s)
  pub low : (drawn_game g).low ≡ low_of g.pay g.score (sum (prizes_of g))
  pub high : (drawn_game g).high ≡ high_of g.pay g.score (sum (prizes_of g))
  pub width : (drawn_game g).width ≡ max 1 (length (cards g.one))
  pub chance_free : (drawn_game g).chance_free ≡ false
  pub same_deal : (s t : DrawnState) → Reachable (drawn_game g) s → Reachable (drawn_game g) t
      → (drawn_game g).key s ≡ (drawn_game g).key t → drawn_deal_of s ≡ drawn_deal_of t
