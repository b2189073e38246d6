-- A position has one setting.
use Rattle.std.proofs.Common.{◌≡◌, ℕ, ℤ, List, sym, ap, ◌∙◌}
use Rattle.goofspiel.specs.declared.Pay.{Pay}
use Rattle.goofspiel.specs.declared.Setting.{Setting}
use Rattle.goofspiel.specs.Position.{IsSettingOf}
use Rattle.goofspiel.specs.Cards.{packed}
use Rattle.goofspiel.specs.laws.Cards.{cards_packed}

pub one_setting : (one two prizes : List ℕ) (score : ℤ) (pay : Pay) (g h : Setting) → IsSettingOf one two prizes score pay g → IsSettingOf one two prizes score pay h → g ≡ h
one_setting one two prizes score pay g h p q =
    let hand_one = sym (cards_packed g.one p.one_small) ∙ ap packed (p.one_is ∙ sym q.one_is) ∙ cards_packed h.one q.one_small in
    let hand_two = sym (cards_packed g.two p.two_small) ∙ ap packed (p.two_is ∙ sym q.two_is) ∙ cards_packed h.two q.two_small in
    λ i. record {
      one = hand_one i;
      two = hand_two i;
      score = (p.score_is ∙ sym q.score_is) i;
      pay = (p.pay_is ∙ sym q.pay_is) i;
      count = (p.count_is ∙ sym q.count_is) i;
      prizes = (p.prizes_are ∙ sym q.prizes_are) i;
    }
