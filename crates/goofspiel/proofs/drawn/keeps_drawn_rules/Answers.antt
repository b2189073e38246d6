use Rattle.std.proofs.Common.{ℕ, ◌-◌, ◌<◌, take, length, refl, ap, ◌∙◌}
use Rattle.std.proofs.lemmas.List.{nil_from_length}
use Rattle.std.proofs.lemmas.List.Elements.{All-from_get_or}
use Rattle.std.specs.List.{range_with_len}
use Rattle.goofspiel.specs.Cards.{places}
use Rattle.goofspiel.specs.laws.Cards.{members_increase}
use Rattle.goofspiel.specs.laws.Deals.{same_hands, near_same, is_deal}
use Rattle.goofspiel.specs.laws.Drawn.{root_undrawn, drawn_sound, drawn_share, drawn_follows, drawn_is_game, same_drawn_deal}
use Rattle.goofspiel.specs.DrawnRules.{drawn_deal_of}
use Rattle.goofspiel.proofs.HandLemmas.{array_prizes}
use Rattle.goofspiel.proofs.drawn.keeps_drawn_rules.Goals as goal

pub returns : goal.returns
returns c =
    let g = c.args._game.now.setting in
    let p = c.args._game.now.valid in
    record {
      root = λ one two prizes score pay is. same_drawn_deal _ _ (same_hands _ _ is.one_is is.two_is is.score_is)
          (root_undrawn g p ∙ ap (λ (n : ℕ). range_with_len 1 (n - 1)) is.count_is) refl;
      prizes = λ one two prizes score pay is. ap (λ (n : ℕ). take n g.prizes) is.count_is ∙ array_prizes prizes g.prizes is.prizes_are;
      is_deal = λ s r. let here = drawn_sound g p s r in record {
        hands = is_deal g here.spent s.hands here.hands;
        undrawn_rise = members_increase 0 s.undrawn;
        undrawn_within = All-from_get_or (λ place. place < g.count) (places s.undrawn) 0 here.undrawn_below;
        undrawn_length = here.left;
        place_within = here.place_below;
        end_place = λ none. here.end_place (ap length none);
      };
      follows = λ s t r turn. drawn_follows g p s t (drawn_sound g p s r) turn;
      draws = λ s one two. refl;
      chance = λ s one two draw r. drawn_share g p s (drawn_sound g p s r);
      moves = λ side s. refl;
      label = λ side s i. refl;
      rank = λ s. refl;
      ends = λ s. (nil_from_length (drawn_deal_of s).hands.one, ap length);
      payoff = λ s. refl;
      reward = λ s one two draw. refl;
      least = λ s. refl;
      most = λ s. refl;
      same_score = λ s prizes r. let here = drawn_sound g p s r in near_same g.pay g.score s.hands.score here.spent prizes here.hands.near;
      key = λ s. refl;
      low = refl;
      high = refl;
      width = refl;
      chance_free = refl;
      same_deal = λ s t r r' e. ap drawn_deal_of ((drawn_is_game g p).same_key s t r r' e);
    }
