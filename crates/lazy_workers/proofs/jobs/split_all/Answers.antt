use Rattle.std.proofs.Common.{rules, ◌≡◌, ◌+◌, ◌≤◌, length, Some, ap, ◌∙◌, arith}
use Rattle.std.proofs.lemmas.List.Elements.{All-pop, All-push}
use Rattle.shared_board.specs.Values.{PassValue}
use Rattle.lazy_workers.specs.Keeping.{HasLimit}
use Rattle.lazy_workers.specs.Workers.{IsJob}
use Rattle.lazy_workers.proofs.JoinLemmas.{lead_drawn, ours_drawn, job_drawn, pass_drawn}
use Rattle.lazy_workers.proofs.jobs.split_all.Goals as goal

pub loop-behind-preserved : goal.loop-behind-preserved
loop-behind-preserved g c =
    let inv = c.loop-behind.invariant in
    let did = c.in-Ok.ensures in
    let model = g.G.Game.model in
    let b = c.args.board.now in let ask = c.args.ask.now in let begun_with = c.args.budgets.begun in
    let old = c.loop-behind.turns.items in let rest = c.pop.new.self.items in
    let shorter : length old ≡ length rest + 1 = rw (c.in-Some.ensures.items) (search rules) in
    let limits = All-pop (HasLimit ask begun_with.may_stop) old rest (Some c.in-Some.own) c.in-Some.ensures.items inv.5 in
    let begun = All-pop (λ t. t.spent ≤ begun_with.spent) old rest (Some c.in-Some.own) c.in-Some.ensures.items inv.6 in
    let made = job_drawn model b ask begun_with (record { pass = c.into_bare.result; worker = _; turns = c.in-Some.own }) c.in-Ok.pass c.into_bare.ensures.same did.entries
    limits.1 begun.1
    (pass_drawn model b c.into_bare.result c.in-Ok.pass c.loop-behind.lead.view c.into_bare.ensures.same c.into_bare.ensures.sound did.ours did.view) in (
      (ours_drawn b c.loop-behind.lead c.split.new.pass did.pass inv.0.0, lead_drawn c.loop-behind.lead c.split.new.pass c.loop-behind.behind did.pass inv.0.1),
      ap (λ (p : PassValue g.row.G.Denot). p.entries) did.pass ∙ inv.1,
      search rules,
      rw c.in_ok-push.ensures.items (All-push (IsJob model b ask begun_with) c.loop-behind.jobs.items _ inv.3 made),
      omega (arith, shorter, inv.4),
      limits.0,
      begun.0,
    )
