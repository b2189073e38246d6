use Rattle.std.proofs.Common.{rules, ◌≡◌, ◌/◌, ℕ, ℤ, List, length, subst}
use Rattle.sim_game.specs.declared.Side.TheVariants.{One, Two}
use Rattle.best_reply.specs.Replies.{IsBestReply, worth_in}
use Rattle.restricted_game.proofs.plans.reply_to.Goals as goal

pub returns-in-One : goal.returns-in-One
returns-in-One c =
    let cells = c.args.cells.now in
    rw c.in-One.is (subst (λ (l : List ℤ). IsBestReply One
    (worth_in One l cells.width c.args.weights.now) cells.width c.args.held.now c.reply_two.result.place c.reply_two.result.sum c.reply_two.result.fresh)
    c.as_slice-items.ensures.value c.reply_two.ensures)

pub returns-in-Two : goal.returns-in-Two
returns-in-Two c =
    let cells = c.args.cells.now in
    let all : length c.as_slice-items.result.now / cells.width ≡ cells.height = search rules in
    let best = subst (λ (n : ℕ). IsBestReply Two
    (worth_in Two c.as_slice-items.result.now cells.width c.args.weights.now) n c.args.held.now c.reply_one.result.place c.reply_one.result.sum c.reply_one.result.fresh)
    all c.reply_one.ensures in
    rw c.in-Two.is (subst (λ (l : List ℤ). IsBestReply Two
    (worth_in Two l cells.width c.args.weights.now) cells.height c.args.held.now c.reply_one.result.place c.reply_one.result.sum c.reply_one.result.fresh)
    c.as_slice-items.ensures.value best)
