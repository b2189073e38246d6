use Rattle.lazy_workers.proofs.WorkerLemmas.{nothing_searched}
use Rattle.lazy_workers.proofs.workers.nothing.Goals as goal

pub returns-clause-searched : goal.returns-clause-searched
returns-clause-searched g c =
    let m = g.G.Game.model c.args.g in
    let game = g.met.G.Game.lawful c.args.g in
    rw (c.new.ensures.entries, c.from_vec.ensures, c.new-2.ensures.items, c.from_vec-2.ensures)
    (nothing_searched m game c.args.ask.now c.args.budgets.begun c.requires.end c.requires.ask.gap.0 c.args.budgets.turns.items c.requires.turns)
