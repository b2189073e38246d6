use Rattle.std.proofs.Common.{rules, arith, ◌≡◌, ◌+◌, length, Some}
use Rattle.std.proofs.lemmas.List.Elements.{All-pop}
use Rattle.lazy_workers.specs.Workers.{IsJob}
use Rattle.lazy_workers.proofs.workers.+work_all.Goals as goal

pub work_all-requires : goal.work_all-requires
work_all-requires g t c κs within =
    let is_job = IsJob g.G.Game.model c.args.board.now c.args.ask.now c.args.begun in
    let popped = All-pop is_job c.args.jobs.items c.pop.new.self.items (Some c.in-Some.job) c.in-Some.ensures.items c.requires.jobs in
    let shorter : length c.args.jobs.items ≡ length c.pop.new.self.items + 1 = rw (c.in-Some.ensures.items) (search rules) in (
      omega (arith, shorter, c.decreases),
      (search rules, (search rules, (search rules, (c.requires.board, popped.0)))),
    )
