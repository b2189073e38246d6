-- The rules of Goofspiel, on two hands of cards and a score.
use Rattle.std.specs.Prelude.{◌≡◌, ◌↔◌, ℕ, ◌+◌, ◌-◌, ◌*◌, ◌≤◌, ◌^◌, max, ℤ, pos, neg_ℤ, ◌+ℤ◌, ◌-ℤ◌, unsigned_abs, true, nat_lt, if◌then◌else◌, List, [], length, slice_index, remove, drop, sum, All}
use Rattle.std.specs.Int.{int_signum}
use Rattle.std.specs.List.Sorted.{IsStrictlyIncreasing}
use Rattle.sim_game.specs.declared.Side.{Side}
use Rattle.sim_game.specs.declared.Side.TheVariants.{One, Two}
use Rattle.sim_game.specs.Model.{GameModel, Turn, IsTurn, IsEnd, Reachable, after_turn, whole_chance}
use Rattle.goofspiel.specs.declared.Pay.{Pay}
use Rattle.goofspiel.specs.declared.Pay.TheVariants.{Margin, Win, Prizes}
use Rattle.goofspiel.specs.declared.Setting.{Setting}
use Rattle.goofspiel.specs.declared.State.{State}
use Rattle.goofspiel.specs.Cards.{cards, packed, rising}
use Rattle.goofspiel.specs.Position.{prizes_of, IsSettingOf}

-- ---- the rules
-- what the players hold, rising, and the score: One's prizes less Two's, but for those that were paid when they were won
pub record Deal : Type 0 where
  pub one : List ℕ
  pub two : List ℕ
  pub score : ℤ

abbrev pub IsHand : List ℕ → Type 0
IsHand hand = IsStrictlyIncreasing hand × All (λ card. (1 ≤ card) × (card ≤ 13)) hand

-- two rising hands of one length
pub record IsDeal (d : Deal) : Type 0 where
  pub one_hand : IsHand d.one
  pub two_hand : IsHand d.two
  pub one_length : length d.one ≡ length d.two

abbrev pub hand_of : Side → Deal → List ℕ
hand_of One d = d.one
hand_of Two d = d.two

-- what One wins by a prize where One bids `one` and Two bids `two`: the higher card takes it, a tie discards it
abbrev pub won : ℕ → ℕ → ℕ → ℤ
won one two prize =
    if nat_lt two one then pos prize else
    if nat_lt one two then neg_ℤ (pos prize) else
    pos 0

-- with m prizes and k cards left, the prize at place m - k is bid for
abbrev pub next_prize : List ℕ → Deal → ℕ
next_prize prizes d = slice_index prizes (length prizes - length d.one)

-- what One wins where each side bids the card at a place of its hand for the prize
abbrev pub won_by : ℕ → Deal → ℕ → ℕ → ℤ
won_by prize d one two = won (slice_index d.one one) (slice_index d.two two) prize

-- the score after a turn by which One wins so much: a prize that is paid when it is won leaves it as it is
abbrev pub score_after : Pay → ℤ → ℤ → ℤ
score_after Margin score win = score +ℤ win
score_after Win score win = score +ℤ win
score_after Prizes score win = score

-- what One gets by a turn by which One wins so much
abbrev pub paid : Pay → ℤ → ℤ
paid Margin win = pos 0
paid Win win = pos 0
paid Prizes win = win

-- each side bids the card at a place of its hand for the prize, and both cards are gone
abbrev pub after_bids : Pay → ℕ → Deal → ℕ → ℕ → Deal
after_bids pay prize d one two = record {
  one = remove d.one one;
  two = remove d.two two;
  score = score_after pay d.score (won_by prize d one two);
}

-- what One gets at an end
abbrev pub pay_of : Pay → ℤ → ℤ
pay_of Margin score = score
pay_of Win score = int_signum score
pay_of Prizes score = score

-- the least and the greatest sum that One gets from a score, with prizes of this sum
abbrev pub low_of : Pay → ℤ → ℕ → ℤ
low_of Margin score total = score -ℤ pos total
low_of Win score total = neg_ℤ (pos 1)
low_of Prizes score total = score -ℤ pos total

abbrev pub high_of : Pay → ℤ → ℕ → ℤ
high_of Margin score total = score +ℤ pos total
high_of Win score total = pos 1
high_of Prizes score total = score +ℤ pos total

-- the sum of the prizes that are still to be won: with k cards left, of the last k, the current one included
abbrev pub prizes_left : List ℕ → Deal → ℕ
prizes_left prizes d = sum (drop (length prizes - length d.one) prizes)

-- the bound of a state where prizes are paid when they are won, else that of the game
abbrev pub bound_of : Pay → ℤ → ℤ → ℤ
bound_of Margin game state = game
bound_of Win game state = game
bound_of Prizes game state = state

-- the least and the greatest sum that One can still get at a score where prizes of this sum are still to be won
abbrev pub least_sum : Setting → ℤ → ℕ → ℤ
least_sum g score left = bound_of g.pay (low_of g.pay g.score (sum (prizes_of g))) (score -ℤ pos left)

abbrev pub most_sum : Setting → ℤ → ℕ → ℤ
most_sum g score left = bound_of g.pay (high_of g.pay g.score (sum (prizes_of g))) (score +ℤ pos left)

-- One's hand, Two's hand and the score plus 2300, in 13 bits each
abbrev pub goofspiel_key : Deal → ℕ
goofspiel_key d = (packed d.one * 2 ^ 13 + packed d.two) * 2 ^ 13 + unsigned_abs (d.score +ℤ pos 2300)

-- ---- the game
-- the deal that a state stands for
abbrev pub deal_of : State → Deal
deal_of s = record { one = cards s.one; two = cards s.two; score = s.score }

-- the state that stands for a deal
abbrev pub state_of : Deal → State
state_of d = record { one = packed d.one; two = packed d.two; score = d.score }

abbrev pub goofspiel_root : Setting → State
goofspiel_root g = record { one = g.one; two = g.two; score = g.score }

abbrev pub goofspiel_game : Setting → GameModel State
goofspiel_game g = record {
  root = goofspiel_root g;
  moves = λ side s. length (hand_of side (deal_of s));
  draws = λ s one two. 1;
  chance = λ s one two draw. whole_chance;
  drawn = λ s one two draw. state_of (after_bids g.pay (next_prize (prizes_of g) (deal_of s)) (deal_of s) one two);
  payoff = λ s. pay_of g.pay s.score;
  reward = λ s one two draw. paid g.pay (won_by (next_prize (prizes_of g) (deal_of s)) (deal_of s) one two);
  least = λ s. least_sum g s.score (prizes_left (prizes_of g) (deal_of s));
  most = λ s. most_sum g s.score (prizes_left (prizes_of g) (deal_of s));
  rank = λ s. length (deal_of s).one;
  key = λ s. goofspiel_key (deal_of s);
  label = λ side s i. slice_index (hand_of side (deal_of s)) i;
  low = low_of g.pay g.score (sum (prizes_of g));
  high = high_of g.pay g.score (sum (prizes_of g));
  width = max 1 (length (cards g.one));
  chance_free = true;
}

-- the states stand for deals, and each call answers by the rules on them
pub record KeepsRules (g : Setting) : Type 0 where
  pub root : (one two prizes : List ℕ) (score : ℤ) (pay : Pay) → IsSettingOf one two prizes score pay g
      → deal_of (goofspiel_game g).root ≡ record { one = rising one; two = rising two; score = score }
  pub prizes : (one two prizes : List ℕ) (score : ℤ) (pay : Pay) → IsSettingOf one two prizes score pay g → prizes_of g ≡ prizes
  pub is_deal : (s : State) → Reachable (goofspiel_game g) s → IsDeal (deal_of s)
  pub follows : (s : State) (t : Turn) → Reachable (goofspiel_game g) s → IsTurn (goofspiel_game g) s t
      → deal_of (after_turn (goofspiel_game g) s t) ≡ after_bids g.pay (next_prize (prizes_of g) (deal_of s)) (deal_of s) t.one t.two
  -- each pair of moves has one draw, of the whole weight
  pub draws : (s : State) (one two : ℕ) → (goofspiel_game g).draws s one two ≡ 1
  pub chance : (s : State) (one two draw : ℕ) → (goofspiel_game g).chance s one two draw ≡ whole_chance
  pub moves : (side : Side) (s : State) → (goofspiel_game g).moves side s ≡ length (hand_of side (deal_of s))
  pub label : (side : Side) (s : State) (i : ℕ) → (goofspiel_game g).label side s i ≡ slice_index (hand_of side (deal_of s)) i
  pub rank : (s : State) → (goofspiel_game g).rank s ≡ length (deal_of s).one
  pub ends : (s : State) → IsEnd (goofspiel_game g) s ↔ ((deal_of s).one ≡ [])
  pub payoff : (s : State) → (goofspiel_game g).payoff s ≡ pay_of g.pay (deal_of s).score
  pub reward : (s : State) (one two draw : ℕ)
      → (goofspiel_game g).reward s one two draw ≡ paid g.pay (won_by (next_prize (prizes_of g) (deal_of s)) (deal_of s) one two)
  pub least : (s : State) → (goofspiel_game g).least s ≡ least_sum g (deal_of s).score (prizes_left (prizes_of g) (deal_of s))
  pub most : (s : State) → (goofspiel_game g).most s ≡ most_sum g (deal_of s).score (prizes_left (prizes_of g) (deal_of s))
  -- where prizes are paid when they are won, the score never changes
  pub same_score : (s : State) → g.pay ≡ Prizes → Reachable (goofspiel_game g) s → (deal_of s).score ≡ g.score
  pub key : (s : State) → (goofspiel_game g).key s ≡ goofspiel_key (deal_of s)
  pub low : (goofspiel_game g).low ≡ low_of g.pay g.score (sum (prizes_of g))
  pub high : (goofspiel_game g).high ≡ high_of g.pay g.score (sum (prizes_of g))
  pub width : (goofspiel_game g).width ≡ max 1 (length (cards g.one))
  pub chance_free : (goofspiel_game g).chance_free ≡ true
  pub same_deal : (s t : State) → Reachable (goofspiel_game g) s → Reachable (goofspiel_game g) t
      → (goofspiel_game g).key s ≡ (goofspiel_game g).key t → deal_of s ≡ deal_of t
