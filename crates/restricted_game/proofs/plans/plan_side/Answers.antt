use Rattle.std.proofs.Common.{rules, ◌≤◌, ℕ, List, sum, All, w64, SFits, ap, subst, sym, ◌∙◌, arith}
use Rattle.std.proofs.lemmas.Int.{ints, to_z-of_z}
use Rattle.sim_game.specs.Sides.{move_of_two}
use Rattle.best_reply.specs.Replies.{IsBestReply, worth_in}
use Rattle.restricted_game.proofs.PlanLemmas.{spread_total, weights_light, worth_low}
use Rattle.restricted_game.proofs.plans.plan_side.Goals as goal

pub reply_to-reply-requires-clause-light : goal.reply_to-reply-requires-clause-light
reply_to-reply-requires-clause-light c =
    let all = spread_total _ c.args.total c.args.own.now c.args.weights.now c.in_ok-plan.plan.items c.in_ok-plan.ensures c.requires.weights.all in
    subst (λ (l : List ℕ). All (λ weight. weight ≤ 1048576) l) (sym c.deref.ensures.value) (weights_light c.in_ok-plan.plan.items 1048576 (omega (arith, all, c.requires.light)))

pub quotient-requires-clause-negatable : goal.quotient-requires-clause-negatable
quotient-requires-clause-negatable c =
    let f : SFits w64 c.reply_to-reply.result.sum = search rules in
    let all = spread_total _ c.args.total c.args.own.now c.args.weights.now c.in_ok-plan.plan.items c.in_ok-plan.ensures c.requires.weights.all in
    let read = ap (λ (l : List ℕ). sum l) c.deref.ensures.value ∙ all in
    let low = worth_low c.args.side c.args.cells.now.items.items c.args.cells.now.width c.args.total c.deref.result.now c.reply_to-reply.result.place c.args.cells.now.small read in
    rw (to_z-of_z w64 c.reply_to-reply.result.sum f) (omega (arith, ints, low, c.reply_to-reply.ensures.worth, c.requires.light))

pub returns : goal.returns
returns c =
    let cells = c.args.cells.now in
    let reply = c.reply_to-reply.result in
    let f : SFits w64 c.reply_to-reply.result.sum = search rules in
    let b : SFits w64 c.quotient.result = search rules in
    record {
      spread = rw c.move_of_one-moves.ensures at c.in_ok-plan.ensures;
      reply = reply.place;
      sum = reply.sum;
      is_fresh = reply.fresh;
      is_best = subst (λ (l : List ℕ). IsBestReply c.args.side (worth_in c.args.side cells.items.items cells.width l)
          (move_of_two c.args.side cells.height cells.width) c.args.others.now c.reply_to-reply.result.place c.reply_to-reply.result.sum c.reply_to-reply.result.fresh)
          c.deref.ensures.value c.reply_to-reply.ensures;
      bound_is = to_z-of_z w64 c.quotient.result b ∙ rw (to_z-of_z w64 c.reply_to-reply.result.sum f) at c.quotient.ensures;
      fresh_is = c.then_some.ensures;
    }
