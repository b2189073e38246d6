-- What holds of the hands and the score, however the prizes are ordered.
use Rattle.std.proofs.Common.{◌≡◌, ℕ, ◌+◌, ◌*◌, ◌<◌, ◌≤◌, ◌^◌, ℤ, pos, negsuc, neg_ℤ, ◌+ℤ◌, ◌-ℤ◌, ◌≤ℤ◌, true, false, cond, ltb, List, length, get_or, sum, refl, sym, ap, ◌∙◌, arith}
use Rattle.std.proofs.lemmas.Int.{ints}
use Rattle.std.proofs.lemmas.List.Sums.{sum_by-le}
use Rattle.std.specs.Int.{int_signum}
use Rattle.std.specs.Int.RustNames.{unsigned_abs}
use Rattle.sim_game.specs.declared.Side.{Side}
use Rattle.sim_game.specs.declared.Side.TheVariants.{One, Two}
use Rattle.goofspiel.specs.declared.Pay.{Pay}
use Rattle.goofspiel.specs.declared.Pay.TheVariants.{Margin, Win, Prizes}
use Rattle.goofspiel.specs.declared.Setting.{Setting}
use Rattle.goofspiel.specs.declared.State.{State}
use Rattle.goofspiel.specs.Cards.{cards}
use Rattle.goofspiel.specs.Deals.{spread, FitsKey, IsDealt, IsScoreNear}
use Rattle.goofspiel.specs.laws.Cards.{few_cards, cards_packed, members_increase, cards_hand, card_bid}
use Rattle.goofspiel.specs.Position.{prizes_of, IsPosition}
use Rattle.goofspiel.specs.Rules.{Deal, IsDeal, deal_of, state_of, goofspiel_root, after_bids, hand_of, won, won_by, score_after, paid, pay_of, low_of, high_of, bound_of, goofspiel_key}

-- ---- scores and payoffs
pub won_small : (one two prize : ℕ) → (neg_ℤ (pos prize) ≤ℤ won one two prize) × (won one two prize ≤ℤ pos prize)
won_small one two prize =
    elim (ltb two one) as (λ b. (neg_ℤ (pos prize) ≤ℤ cond b (pos prize) (cond (ltb one two) (neg_ℤ (pos prize)) (pos 0)))
    × (cond b (pos prize) (cond (ltb one two) (neg_ℤ (pos prize)) (pos 0)) ≤ℤ pos prize)) [
      | true ↦ (omega (arith, ints), omega (arith, ints))
      | false ↦ elim (ltb one two) as (λ b. (neg_ℤ (pos prize) ≤ℤ cond b (neg_ℤ (pos prize)) (pos 0)) × (cond b (neg_ℤ (pos prize)) (pos 0) ≤ℤ pos prize)) [
        | true ↦ (omega (arith, ints), omega (arith, ints))
        | false ↦ (omega (arith, ints), omega (arith, ints))
      ]
    ]

sign_small : (z : ℤ) → (negsuc 0 ≤ℤ int_signum z) × (int_signum z ≤ℤ pos 1)
sign_small (pos n) = (omega (arith, ints), omega (arith, ints))
sign_small (negsuc n) = (omega (arith, ints), omega (arith, ints))

pub spread_few : (pay : Pay) (spent : ℕ) → spread pay spent ≤ spent
spread_few Margin spent = omega arith
spread_few Win spent = omega arith
spread_few Prizes spent = omega arith

pub spread_more : (pay : Pay) (few many : ℕ) → few ≤ many → spread pay few ≤ spread pay many
spread_more Margin few many h = h
spread_more Win few many h = h
spread_more Prizes few many h = omega arith

pub near_after : (pay : Pay) (first score win : ℤ) (spent prize : ℕ) → IsScoreNear pay first spent score → neg_ℤ (pos prize) ≤ℤ win → win ≤ℤ pos prize
    → IsScoreNear pay first (spent + prize) (score_after pay score win)
near_after Margin first score win spent prize here l h = record { low = omega (arith, ints, here.low); high = omega (arith, ints, here.high) }
near_after Win first score win spent prize here l h = record { low = omega (arith, ints, here.low); high = omega (arith, ints, here.high) }
near_after Prizes first score win spent prize here l h = record { low = here.low; high = here.high }

pub near_same : (pay : Pay) (first score : ℤ) (spent : ℕ) → pay ≡ Prizes → IsScoreNear pay first spent score → score ≡ first
near_same Margin first score spent e here = absurd (cc)
near_same Win first score spent e here = absurd (cc)
near_same Prizes first score spent e here = omega (arith, ints, here.low, here.high)

-- what bounds the sums from a state where prizes of the sum `spent` were bid for, and such of the sum `left` are still to be won
pub record IsSumRange (pay : Pay) (first : ℤ) (total left : ℕ) (score : ℤ) : Type 0 where
  pub least_low : low_of pay first total ≤ℤ bound_of pay (low_of pay first total) (score -ℤ pos left)
  pub most_high : bound_of pay (high_of pay first total) (score +ℤ pos left) ≤ℤ high_of pay first total
  pub payoff_low : bound_of pay (low_of pay first total) (score -ℤ pos left) ≤ℤ pay_of pay score
  pub payoff_high : pay_of pay score ≤ℤ bound_of pay (high_of pay first total) (score +ℤ pos left)

pub sum_range_of : (pay : Pay) (first : ℤ) (total spent left : ℕ) (score : ℤ) → spent ≤ total → left ≤ total → IsScoreNear pay first spent score
    → IsSumRange pay first total left score
sum_range_of Margin first total spent left score s l here = record {
  least_low = omega (arith, ints);
  most_high = omega (arith, ints);
  payoff_low = omega (arith, ints, here.low);
  payoff_high = omega (arith, ints, here.high);
}
sum_range_of Win first total spent left score s l here = record {
  least_low = omega (arith, ints);
  most_high = omega (arith, ints);
  payoff_low = (sign_small score).0;
  payoff_high = (sign_small score).1;
}
sum_range_of Prizes first total spent left score s l here = record {
  least_low = omega (arith, ints, here.low);
  most_high = omega (arith, ints, here.high);
  payoff_low = omega (arith, ints);
  payoff_high = omega (arith, ints);
}

-- a turn by which One wins so much keeps the bounds, where `left` is still to be won before it and `rest` after it
pub record IsTurnRange (pay : Pay) (low high score win : ℤ) (rest left : ℕ) : Type 0 where
  pub reward_low : bound_of pay low (score -ℤ pos left) ≤ℤ (paid pay win +ℤ bound_of pay low (score_after pay score win -ℤ pos rest))
  pub reward_high : (paid pay win +ℤ bound_of pay high (score_after pay score win +ℤ pos rest)) ≤ℤ bound_of pay high (score +ℤ pos left)

pub turn_range : (pay : Pay) (low high score : ℤ) (one two prize rest left : ℕ) → prize + rest ≤ left → IsTurnRange pay low high score (won one two prize) rest left
turn_range Margin low high score one two prize rest left h = record { reward_low = omega (arith, ints); reward_high = omega (arith, ints) }
turn_range Win low high score one two prize rest left h = record { reward_low = omega (arith, ints); reward_high = omega (arith, ints) }
turn_range Prizes low high score one two prize rest left h =
    let small = won_small one two prize in record { reward_low = omega (arith, ints, small.0); reward_high = omega (arith, ints, small.1) }

pub record IsPayRange (pay : Pay) (first : ℤ) (total : ℕ) : Type 0 where
  pub low_least : neg_ℤ (pos 2300) ≤ℤ low_of pay first total
  pub low_high : low_of pay first total ≤ℤ high_of pay first total
  pub high_most : high_of pay first total ≤ℤ pos 2300

pub pay_range : (pay : Pay) (first : ℤ) (total : ℕ) → total ≤ 1300 → unsigned_abs first ≤ 1000 → IsPayRange pay first total
pay_range Margin first total h small = record { low_least = omega (arith, ints); low_high = omega (arith, ints); high_most = omega (arith, ints) }
pay_range Win first total h small = record { low_least = omega (arith, ints); low_high = omega (arith, ints); high_most = omega (arith, ints) }
pay_range Prizes first total h small = record { low_least = omega (arith, ints); low_high = omega (arith, ints); high_most = omega (arith, ints) }

-- ---- states
pub same_goofspiel_state : (s t : State) → s.one ≡ t.one → s.two ≡ t.two → s.score ≡ t.score → s ≡ t
same_goofspiel_state s t p q r = λ i. record { one = p i; two = q i; score = r i }

pub same_hands : (d e : Deal) → d.one ≡ e.one → d.two ≡ e.two → d.score ≡ e.score → d ≡ e
same_hands d e p q r = λ i. record { one = p i; two = q i; score = r i }

-- ---- the hands and the score in bits
pub hands_key_is : (s : State) → FitsKey s → goofspiel_key (deal_of s) ≡ (s.one * 2 ^ 13 + s.two) * 2 ^ 13 + unsigned_abs (s.score +ℤ pos 2300)
hands_key_is s here = rw (cards_packed s.one here.one, cards_packed s.two here.two) refl

pub key_small : (s : State) → FitsKey s → goofspiel_key (deal_of s) < 2 ^ 39
key_small s here = rw (hands_key_is s here) (omega (arith, ints, here.score, here.one, here.two))

pub keys_apart : (s t : State) → FitsKey s → FitsKey t → goofspiel_key (deal_of s) ≡ goofspiel_key (deal_of t) → s ≡ t
keys_apart s t here there e =
    let same : (s.one * 2 ^ 13 + s.two) * 2 ^ 13 + unsigned_abs (s.score +ℤ pos 2300) ≡ (t.one * 2 ^ 13 + t.two) * 2 ^ 13 + unsigned_abs (t.score +ℤ pos 2300) =
    sym (hands_key_is s here) ∙ e ∙ hands_key_is t there in
    let a = here.score in let b = there.score in let c = here.two in let d = there.two in
    same_goofspiel_state s t (omega (arith, ints, same)) (omega (arith, ints, same)) (omega (arith, ints, same))

-- ---- what holds of the hands and the score where the prizes that were bid for have the sum `spent`
pub hand_count : (g : Setting) (spent : ℕ) (side : Side) (s : State) → IsDealt g spent s → length (hand_of side (deal_of s)) ≡ length (cards s.one)
hand_count g spent One s here = refl
hand_count g spent Two s here = sym here.same_count

pub is_deal : (g : Setting) (spent : ℕ) (s : State) → IsDealt g spent s → IsDeal (deal_of s)
is_deal g spent s here = record {
  one_hand = (members_increase 1 s.one, cards_hand s.one here.one_small);
  two_hand = (members_increase 1 s.two, cards_hand s.two here.two_small);
  one_length = here.same_count;
}

-- what holds of the state after both bids for a prize
pub record IsBidFor (g : Setting) (spent prize : ℕ) (s : State) (one two : ℕ) : Type 0 where
  pub follows : deal_of (state_of (after_bids g.pay prize (deal_of s) one two)) ≡ after_bids g.pay prize (deal_of s) one two
  pub fewer : length (cards (state_of (after_bids g.pay prize (deal_of s) one two)).one) + 1 ≡ length (cards s.one)
  pub dealt : IsDealt g (spent + prize) (state_of (after_bids g.pay prize (deal_of s) one two))

module _ (g : Setting) (p : IsPosition g) where
  pub few_prizes : g.count ≤ 13
  few_prizes = omega (arith, few_cards g.one p.one_small, p.one_count)

  pub total_high : sum (prizes_of g) ≤ 1300
  total_high = omega (arith, sum_by-le (λ prize. prize) 100 (prizes_of g) p.prize_high, p.prize_count, few_prizes)

  pub dealt_first : IsDealt g 0 (goofspiel_root g)
  dealt_first = record {
    one_small = p.one_small;
    two_small = p.two_small;
    same_count = p.one_count ∙ sym p.two_count;
    few = omega (arith, p.one_count);
    near = let none = spread_few g.pay 0 in record { low = omega (arith, ints, none); high = omega (arith, ints, none) };
  }

  pub small_score : (spent : ℕ) (s : State) → spent ≤ 1300 → IsDealt g spent s → FitsKey s
  small_score spent s few here = record {
    one = here.one_small;
    two = here.two_small;
    score = let less = spread_few g.pay spent in omega (arith, ints, few, less, here.near.low, here.near.high, p.score_small);
  }

  pub bid_for : (spent prize : ℕ) (s : State) (one two : ℕ) → IsDealt g spent s → one < length (cards s.one) → two < length (cards s.two) → IsBidFor g spent prize s one two
  bid_for spent prize s one two here place_one place_two =
      let first = card_bid s.one one here.one_small place_one in
      let second = card_bid s.two two here.two_small place_two in
      let next = state_of (after_bids g.pay prize (deal_of s) one two) in
      let small = won_small (get_or (cards s.one) one 0) (get_or (cards s.two) two 0) prize in
      let fewer : length (cards next.one) + 1 ≡ length (cards s.one) = ap (λ (xs : List ℕ). length xs + 1) first.again ∙ first.count in
      let fewer_two : length (cards next.two) + 1 ≡ length (cards s.two) = ap (λ (xs : List ℕ). length xs + 1) second.again ∙ second.count in
      record {
        follows = same_hands _ _ first.again second.again refl;
        fewer = fewer;
        dealt = record {
          one_small = first.small;
          two_small = second.small;
          same_count = omega (arith, fewer, fewer_two, here.same_count);
          few = omega (arith, fewer, here.few);
          near = near_after g.pay g.score s.score (won_by prize (deal_of s) one two) spent prize here.near small.0 small.1;
        };
      }
