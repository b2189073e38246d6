-- Keys, first faults and draws computed by hand: two cards a side and two prizes of 1, with the deals after one bid of
-- each side; one and three cards a side with drawn prizes.
use Rattle.std.proofs.Common.{◌≡◌, ◌*◌, ◌/◌, ◌^◌, [], ◌∷◌, pos, negsuc, replicate, None, Some, refl}
use Rattle.sim_game.specs.declared.Side.TheVariants.{Two}
use Rattle.sim_game.specs.Model.{whole_chance}
use Rattle.goofspiel.specs.declared.GoofspielError.TheVariants.{CardRange, CardTwice, Lengths, PrizeRange, ScoreRange}
use Rattle.goofspiel.specs.declared.Pay.TheVariants.{Margin, Prizes, Win}
use Rattle.goofspiel.specs.declared.Setting.{Setting}
use Rattle.goofspiel.specs.Cards.{rising}
use Rattle.goofspiel.specs.DrawnRules.{DrawnDeal, after_draw, draw_count, drawn_key_of, drawn_left, first_deal}
use Rattle.goofspiel.specs.Counts.{choose}
use Rattle.goofspiel.specs.Deals.{spread}
use Rattle.goofspiel.specs.Position.{first_fault}
use Rattle.goofspiel.specs.Places.{deals}
use Rattle.sums.specs.Sums.{count_below}
use Rattle.goofspiel.specs.Rules.{Deal, after_bids, goofspiel_key, least_sum, most_sum, paid, prizes_left, won_by}

abbrev start : Deal
start = record { one = 1 ∷ 3 ∷ []; two = 2 ∷ 3 ∷ []; score = pos 0 }

start_key : goofspiel_key start ≡ 335595772
start_key = refl

key_after_1_2 : goofspiel_key (after_bids Margin 1 start 0 0) ≡ 268470523
key_after_1_2 = refl

key_after_1_3 : goofspiel_key (after_bids Margin 1 start 0 1) ≡ 268454139
key_after_1_3 = refl

key_after_3_2 : goofspiel_key (after_bids Margin 1 start 1 0) ≡ 67143933
key_after_3_2 = refl

key_after_3_3 : goofspiel_key (after_bids Margin 1 start 1 1) ≡ 67127548
key_after_3_3 = refl

-- ---- prizes that are paid when they are won
-- Two's 2 takes the prize from One's 1: One pays it, and the score stays
paid_by_one : paid Prizes (won_by 1 start 0 0) ≡ negsuc 0
paid_by_one = refl

paid_to_one : paid Prizes (won_by 1 start 1 0) ≡ pos 1
paid_to_one = refl

nobody_is_paid : paid Prizes (won_by 1 start 1 1) ≡ pos 0
nobody_is_paid = refl

no_turn_pays : paid Margin (won_by 1 start 1 0) ≡ pos 0
no_turn_pays = refl

-- both ways to the hands 3 and 3 lead to one key, that of the score 0
key_paid_by_one : goofspiel_key (after_bids Prizes 1 start 0 0) ≡ 268470524
key_paid_by_one = refl

key_paid_to_one : goofspiel_key (after_bids Prizes 1 start 1 0) ≡ 67143932
key_paid_to_one = refl

-- prizes of 5, 7 and 11, of which the first is gone
abbrev with_two_left : Deal
with_two_left = record { one = 1 ∷ 3 ∷ []; two = 2 ∷ 3 ∷ []; score = pos 4 }

two_left : prizes_left (5 ∷ 7 ∷ 11 ∷ []) with_two_left ≡ 18
two_left = refl

abbrev setting : Setting
setting = record { one = 7; two = 7; score = pos 4; pay = Prizes; count = 3; prizes = 5 ∷ 7 ∷ 11 ∷ replicate 10 0 }

least_with_two_left : least_sum setting (pos 4) (prizes_left (5 ∷ 7 ∷ 11 ∷ []) with_two_left) ≡ negsuc 13
least_with_two_left = refl

most_with_two_left : most_sum setting (pos 4) (prizes_left (5 ∷ 7 ∷ 11 ∷ []) with_two_left) ≡ pos 22
most_with_two_left = refl

-- with four cards a side there are 1 + 16 + 36 + 16 + 1 pairs of hands
pairs_of_hands : count_below 5 (λ left. deals (choose 4 left) (spread Prizes 10)) ≡ 70
pairs_of_hands = refl

-- else a state has the bounds of the game
least_of_margin : least_sum (record setting { pay = Margin }) (pos 4) 18 ≡ negsuc 18
least_of_margin = refl

most_of_win : most_sum (record setting { pay = Win }) (pos 4) 18 ≡ pos 1
most_of_win = refl

range_before_repeat : first_fault (1 ∷ 1 ∷ []) (2 ∷ 14 ∷ []) [] (pos 0) ≡ Some (CardRange Two 1)
range_before_repeat = refl

second_repeat : first_fault (1 ∷ 2 ∷ []) (5 ∷ 3 ∷ 5 ∷ []) [] (pos 0) ≡ Some (CardTwice Two 5)
second_repeat = refl

lengths_before_prizes : first_fault (1 ∷ 2 ∷ []) (5 ∷ 3 ∷ []) (0 ∷ []) (pos 0) ≡ Some (Lengths 2 2 1)
lengths_before_prizes = refl

prizes_before_score : first_fault (1 ∷ 2 ∷ []) (5 ∷ 3 ∷ []) (1 ∷ 101 ∷ []) (pos 1001) ≡ Some (PrizeRange 1)
prizes_before_score = refl

score_last : first_fault (1 ∷ 2 ∷ []) (5 ∷ 3 ∷ []) (1 ∷ 100 ∷ []) (negsuc 1000) ≡ Some ScoreRange
score_last = refl

no_fault : first_fault (1 ∷ 2 ∷ []) (5 ∷ 3 ∷ []) (1 ∷ 100 ∷ []) (negsuc 999) ≡ None
no_fault = refl

-- ---- drawn prizes
abbrev single : DrawnDeal
single = first_deal (2 ∷ []) (1 ∷ []) (1 ∷ []) (pos 0)

single_key : drawn_key_of single ≡ 17593561251840
unfolding rising
single_key = refl

-- nothing is left but the score
single_end : drawn_key_of (after_draw Margin (1 ∷ []) single 0 0 0) ≡ 2301 * 2 ^ 17
unfolding rising
single_end = refl

abbrev triple : DrawnDeal
triple = first_deal (4 ∷ 5 ∷ 6 ∷ []) (1 ∷ 2 ∷ 3 ∷ []) (1 ∷ 2 ∷ 3 ∷ []) (pos 0)

triple_key : drawn_key_of triple ≡ 492589026902112
unfolding rising
triple_key = refl

triple_draws : draw_count triple ≡ 2
triple_draws = refl

triple_chance : whole_chance / draw_count triple ≡ 180180
triple_chance = refl

-- One bids 5 and Two 3 for the prize at place 0
triple_first_draw : after_draw Margin (1 ∷ 2 ∷ 3 ∷ []) triple 1 2 0 ≡ record { hands = record { one = 4 ∷ 6 ∷ []; two = 1 ∷ 2 ∷ []; score = pos 1 }; undrawn = 2 ∷ []; place = 1 }
unfolding rising
triple_first_draw = refl

triple_second_draw : after_draw Margin (1 ∷ 2 ∷ 3 ∷ []) triple 1 2 1 ≡ record { hands = record { one = 4 ∷ 6 ∷ []; two = 1 ∷ 2 ∷ []; score = pos 1 }; undrawn = 1 ∷ []; place = 2 }
unfolding rising
triple_second_draw = refl

key_after_draw : drawn_key_of (after_draw Margin (1 ∷ 2 ∷ 3 ∷ []) triple 1 2 1) ≡ 351847243710498
unfolding rising
key_after_draw = refl

-- all three prizes are still to be won, then the two at the places 1 and 2, at an end none
triple_left : drawn_left (1 ∷ 2 ∷ 3 ∷ []) triple ≡ 6
unfolding rising
triple_left = refl

left_after_draw : drawn_left (1 ∷ 2 ∷ 3 ∷ []) (after_draw Prizes (1 ∷ 2 ∷ 3 ∷ []) triple 1 2 1) ≡ 5
unfolding rising
left_after_draw = refl

single_left : drawn_left (1 ∷ []) (after_draw Prizes (1 ∷ []) single 0 0 0) ≡ 0
unfolding rising
single_left = refl

-- the score stays 0: the key is that of the margin less what One won, 1 in place 17 on
key_after_paid_draw : drawn_key_of (after_draw Prizes (1 ∷ 2 ∷ 3 ∷ []) triple 1 2 1) ≡ 351847243579426
unfolding rising
key_after_paid_draw = refl
