-- The rules of Goofspiel make a game.
use Rattle.std.proofs.Common.{◌≡◌, ℕ, ◌+◌, ◌-◌, ◌≤◌, ◌<◌, length, get_or, take, drop, sum, refl, sym, ap, ◌∙◌, subst, arith}
use Rattle.std.proofs.lemmas.Int.{ints}
use Rattle.std.proofs.lemmas.List.{get_or-take}
use Rattle.std.proofs.lemmas.List.Sums.{sum_by_more, sum_by-take-le, sum_by-take-drop, sum_by-drop_more}
use Rattle.sim_game.specs.Model.{Turn, IsTurn, Reachable, IsGame, after_turn}
use Rattle.sim_game.proofs.ReachLemmas.{reachable_induction}
use Rattle.goofspiel.specs.declared.Setting.{Setting}
use Rattle.goofspiel.specs.declared.State.{State}
use Rattle.goofspiel.specs.Cards.{cards}
use Rattle.goofspiel.specs.laws.Cards.{few_cards}
use Rattle.goofspiel.specs.Deals.{gone, FitsKey, IsDealt}
use Rattle.goofspiel.specs.laws.Deals.{IsBidFor, IsSumRange, IsTurnRange, sum_range_of, turn_range, pay_range, key_small, keys_apart, hand_count, total_high, dealt_first, small_score, bid_for}
use Rattle.goofspiel.specs.Position.{prizes_of, IsPosition}
use Rattle.goofspiel.specs.Rules.{deal_of, next_prize, prizes_left, won_by, goofspiel_game}

-- what holds of each reachable state
abbrev pub IsGoofspielSound : Setting → State → Type 0
IsGoofspielSound g s = IsDealt g (gone g s) s

module _ (g : Setting) (p : IsPosition g) where
  gone_high : (s : State) → gone g s ≤ 1300
  gone_high s = omega (arith, sum_by-take-le (λ prize. prize) (prizes_of g) (g.count - length (cards s.one)), total_high g p)

  sound_root : IsGoofspielSound g (goofspiel_game g).root
  sound_root =
      let none : g.count - length (cards g.one) ≡ 0 = omega (arith, p.one_count) in
      let nothing : gone g (goofspiel_game g).root ≡ 0 = ap (λ (n : ℕ). sum (take n (prizes_of g))) none in
      subst (λ (n : ℕ). IsDealt g n (goofspiel_game g).root) (sym nothing) (dealt_first g p)

  pub bids_for : (s : State) (t : Turn) → IsGoofspielSound g s → IsTurn (goofspiel_game g) s t → IsBidFor g (gone g s) (next_prize (prizes_of g) (deal_of s)) s t.one t.two
  bids_for s t here turn = bid_for g p (gone g s) (next_prize (prizes_of g) (deal_of s)) s t.one t.two here turn.one_below turn.two_below

  -- one more prize is gone
  gone_more : (s : State) (t : Turn) → IsGoofspielSound g s → IsTurn (goofspiel_game g) s t → gone g (after_turn (goofspiel_game g) s t) ≡ gone g s + next_prize (prizes_of g) (deal_of s)
  gone_more s t here turn =
      let before = g.count - length (cards s.one) in
      let fewer = (bids_for s t here turn).fewer in
      let more : g.count - length (cards (after_turn (goofspiel_game g) s t).one) ≡ before + 1 = omega (arith, fewer, here.few) in
      let within : before < length (prizes_of g) = omega (arith, fewer, here.few, p.prize_count) in
      ap (λ (n : ℕ). sum (take n (prizes_of g))) more ∙ sum_by_more (λ prize. prize) (prizes_of g) before 0 within
      ∙ ap (λ (n : ℕ). gone g s + get_or (prizes_of g) (n - length (cards s.one)) 0) (sym p.prize_count)

  sound_turn : (s : State) (t : Turn) → IsGoofspielSound g s → IsTurn (goofspiel_game g) s t → IsGoofspielSound g (after_turn (goofspiel_game g) s t)
  sound_turn s t here turn = subst (λ (n : ℕ). IsDealt g n (after_turn (goofspiel_game g) s t)) (sym (gone_more s t here turn)) (bids_for s t here turn).dealt

  pub goofspiel_sound : (s : State) → Reachable (goofspiel_game g) s → IsGoofspielSound g s
  goofspiel_sound = reachable_induction (goofspiel_game g) (IsGoofspielSound g) sound_root (λ s t _ here turn. sound_turn s t here turn)

  pub small : (s : State) → Reachable (goofspiel_game g) s → FitsKey s
  small s r = small_score g p (gone g s) s (gone_high s) (goofspiel_sound s r)

  -- the prize that is bid for, in the array
  pub prize_is : (s : State) → IsGoofspielSound g s → 1 ≤ length (cards s.one) → get_or g.prizes (g.count - length (cards s.one)) 0 ≡ next_prize (prizes_of g) (deal_of s)
  prize_is s here some =
      let within : g.count - length (cards s.one) < g.count = omega (arith, here.few) in
      sym (get_or-take g.count g.prizes (g.count - length (cards s.one)) 0 within) ∙ ap (λ (n : ℕ). get_or (prizes_of g) (n - length (cards s.one)) 0) (sym p.prize_count)

  -- the prize that is bid for is the first of those that are still to be won
  left_less : (s : State) (t : Turn) → IsGoofspielSound g s → IsTurn (goofspiel_game g) s t
      → prizes_left (prizes_of g) (deal_of s) ≡ next_prize (prizes_of g) (deal_of s) + prizes_left (prizes_of g) (deal_of (after_turn (goofspiel_game g) s t))
  left_less s t here turn =
      let before = length (prizes_of g) - length (cards s.one) in
      let fewer = (bids_for s t here turn).fewer in
      let more : length (prizes_of g) - length (cards (after_turn (goofspiel_game g) s t).one) ≡ before + 1 = omega (arith, fewer, here.few, p.prize_count) in
      let within : before < length (prizes_of g) = omega (arith, fewer, here.few, p.prize_count) in
      sum_by-drop_more (λ prize. prize) (prizes_of g) before 0 within ∙ ap (λ (n : ℕ). next_prize (prizes_of g) (deal_of s) + sum (drop n (prizes_of g))) (sym more)

  sum_range : (s : State) → Reachable (goofspiel_game g) s → IsSumRange g.pay g.score (sum (prizes_of g)) (prizes_left (prizes_of g) (deal_of s)) s.score
  sum_range s r =
      let spent = sum_by-take-le (λ prize. prize) (prizes_of g) (g.count - length (cards s.one)) in
      let left = sum_by-take-drop (λ prize. prize) (prizes_of g) (length (prizes_of g) - length (cards s.one)) in
      sum_range_of g.pay g.score (sum (prizes_of g)) (gone g s) (prizes_left (prizes_of g) (deal_of s)) s.score (omega (arith, spent)) (omega (arith, left)) (goofspiel_sound s r).near

  reward_range : (s : State) (t : Turn) → Reachable (goofspiel_game g) s → IsTurn (goofspiel_game g) s t
      → IsTurnRange g.pay (goofspiel_game g).low (goofspiel_game g).high s.score (won_by (next_prize (prizes_of g) (deal_of s)) (deal_of s) t.one t.two)
      (prizes_left (prizes_of g) (deal_of (after_turn (goofspiel_game g) s t))) (prizes_left (prizes_of g) (deal_of s))
  reward_range s t r turn =
      let less = left_less s t (goofspiel_sound s r) turn in
      turn_range g.pay (goofspiel_game g).low (goofspiel_game g).high s.score (get_or (cards s.one) t.one 0) (get_or (cards s.two) t.two 0) (next_prize (prizes_of g) (deal_of s))
      (prizes_left (prizes_of g) (deal_of (after_turn (goofspiel_game g) s t))) (prizes_left (prizes_of g) (deal_of s)) (omega (arith, less))

  pub goofspiel_is_game : IsGame (goofspiel_game g)
  goofspiel_is_game =
      let range = pay_range g.pay g.score (sum (prizes_of g)) (total_high g p) p.score_small in
      record {
        width_low = omega arith;
        width_high = omega (arith, few_cards g.one p.one_small);
        low_least = omega (arith, ints, range.low_least);
        low_high = range.low_high;
        high_most = omega (arith, ints, range.high_most);
        end_moves = λ side s r h. hand_count g (gone g s) side s (goofspiel_sound s r) ∙ h;
        other_moves = λ side s r h. omega (arith, hand_count g (gone g s) side s (goofspiel_sound s r), h);
        moves_high = λ side s r. omega (arith, hand_count g (gone g s) side s (goofspiel_sound s r), (goofspiel_sound s r).few, p.one_count);
        rank_high = λ s r. omega (arith, few_cards s.one (goofspiel_sound s r).one_small);
        rank_falls = λ s t r turn. let fewer = (bids_for s t (goofspiel_sound s r) turn).fewer in omega (arith, fewer);
        least_low = λ s r. (sum_range s r).least_low;
        most_high = λ s r. (sum_range s r).most_high;
        payoff_low = λ s r h. (sum_range s r).payoff_low;
        payoff_high = λ s r h. (sum_range s r).payoff_high;
        reward_low = λ s t r turn. (reward_range s t r turn).reward_low;
        reward_high = λ s t r turn. (reward_range s t r turn).reward_high;
        same_key = λ s t r r' e. keys_apart s t (small s r) (small t r') e;
        key_high = λ s r. let key = key_small s (small s r) in omega (arith, key);
        draws_low = λ s a b r h h'. omega arith;
        draws_high = λ s a b r h h'. omega arith;
        chance_low = λ s t r h. omega arith;
        chance_sum = λ s a b r h h'. refl;
        one_draw = λ s a b h r h' h''. refl;
      }
