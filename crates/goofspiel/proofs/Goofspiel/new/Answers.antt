use Rattle.std.proofs.Common.{arith, to_z, of_z, w32, sym, refl, ap, sum, ◌∙◌}
use mir.Val.{SFits}
use Rattle.std.proofs.lemmas.Int.{to_z-of_z}
use Rattle.goofspiel.specs.Rules.{low_of, high_of}
use Rattle.goofspiel.proofs.HandLemmas.{position_of, array_prizes}
use Rattle.goofspiel.proofs.Goofspiel.new.Goals as goal

pub invariant_of-result : goal.invariant_of-result
invariant_of-result c =
    let total = c.prize_sum-total.ensures.is ∙ ap sum (sym (array_prizes c.args.prizes.now c.prize_array.result c.prize_array.ensures)) in
    let least : SFits w32 c.least_payoff.result = record { sfits = c.least_payoff.type_inv } in
    let greatest : SFits w32 c.greatest_payoff.result = record { sfits = c.greatest_payoff.type_inv } in
    record {
      valid = position_of _ c.args.prizes.now c.in_ok-one_hand.ensures.small c.in_ok-two_hand.ensures.small
          (omega (arith, c.in_ok-one_hand.ensures.count, c.in_ok-check_lengths.ensures.0, c.in_ok-check_lengths.ensures.1))
          (omega (arith, c.in_ok-two_hand.ensures.count, c.in_ok-check_lengths.ensures.1))
          refl c.prize_array.ensures c.in_ok-check_prizes.ensures
          c.in_ok-check_score.ensures;
      low_is = to_z-of_z w32 c.least_payoff.result least ∙ c.least_payoff.ensures ∙ ap (low_of c.args.pay (to_z w32 (of_z w32 c.args.score))) total;
      high_is = to_z-of_z w32 c.greatest_payoff.result greatest ∙ c.greatest_payoff.ensures ∙ ap (high_of c.args.pay (to_z w32 (of_z w32 c.args.score))) total;
    }
