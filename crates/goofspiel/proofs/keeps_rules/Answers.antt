use Rattle.std.proofs.Common.{ℕ, take, length, refl, ap, ◌∙◌}
use Rattle.std.proofs.lemmas.List.{nil_from_length}
use Rattle.goofspiel.specs.laws.Deals.{same_hands, near_same, is_deal}
use Rattle.goofspiel.specs.Deals.{gone}
use Rattle.goofspiel.specs.laws.Game.{goofspiel_sound, bids_for, goofspiel_is_game}
use Rattle.goofspiel.specs.Rules.{deal_of}
use Rattle.goofspiel.proofs.HandLemmas.{array_prizes}
use Rattle.goofspiel.proofs.keeps_rules.Goals as goal

pub returns : goal.returns
returns c =
    let g = c.args._game.now.setting in
    let p = c.args._game.now.valid in
    record {
      root = λ one two prizes score pay is. same_hands _ _ is.one_is is.two_is is.score_is;
      prizes = λ one two prizes score pay is. ap (λ (n : ℕ). take n g.prizes) is.count_is ∙ array_prizes prizes g.prizes is.prizes_are;
      is_deal = λ s r. is_deal g (gone g s) s (goofspiel_sound g p s r);
      follows = λ s t r turn. (bids_for g p s t (goofspiel_sound g p s r) turn).follows;
      draws = λ s one two. refl;
      chance = λ s one two draw. refl;
      moves = λ side s. refl;
      label = λ side s i. refl;
      rank = λ s. refl;
      ends = λ s. (nil_from_length (deal_of s).one, ap length);
      payoff = λ s. refl;
      reward = λ s one two draw. refl;
      least = λ s. refl;
      most = λ s. refl;
      same_score = λ s prizes r. near_same g.pay g.score s.score (gone g s) prizes (goofspiel_sound g p s r).near;
      key = λ s. refl;
      low = refl;
      high = refl;
      width = refl;
      chance_free = refl;
      same_deal = λ s t r r' e. ap deal_of ((goofspiel_is_game g p).same_key s t r r' e);
    }
