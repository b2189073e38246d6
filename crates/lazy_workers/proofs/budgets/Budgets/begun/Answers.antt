use Rattle.std.proofs.Common.{rules, ◌≤◌, [], refl, arith}
use Rattle.std.proofs.lemmas.List.Elements.{All-cons, All-nil, All-push, Contains-append_left, Contains-push}
use Rattle.lazy_workers.specs.Keeping.{HasLimit}
use Rattle.lazy_workers.proofs.budgets.Budgets.begun.Goals as goal

pub loop-worker-init : goal.loop-worker-init
loop-worker-init c =
    let first = c.args.first in
    let limit : HasLimit c.args.ask.now first.may_stop first = record { may = refl; no_more = c.requires.few; whole = c.requires.whole; spent = c.spent.ensures.within } in
    rw c.in_ok-push.ensures.items (rw c.in_ok-turns.ensures.items (
      refl,
      All-cons (HasLimit c.args.ask.now first.may_stop) first [] limit (All-nil (HasLimit c.args.ask.now first.may_stop)),
      All-cons (λ t. t.spent ≤ first.spent) first [] (omega arith) (All-nil (λ t. t.spent ≤ first.spent)),
      Contains-push [] first,
    ))

pub loop-worker-preserved : goal.loop-worker-preserved
loop-worker-preserved c =
    let inv = c.loop-worker.invariant in
    let first = c.args.first in
    rw c.in_ok-push-2.ensures.items (
      search rules,
      All-push (HasLimit c.args.ask.now c.args.first.may_stop) c.loop-worker.turns.items _ inv.1
          (rw (c.with_stop.ensures, c.may_stop.ensures) (record { may = refl; no_more = omega arith; whole = λ _. refl; spent = omega arith })),
      All-push (λ t. t.spent ≤ first.spent) c.loop-worker.turns.items _ inv.2 (rw c.with_stop.ensures (omega arith)),
      Contains-append_left c.loop-worker.turns.items _ first inv.3,
    )
