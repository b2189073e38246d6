use Rattle.std.proofs.Common.{◌≡◌, ◌+◌, arith}
use Rattle.table.specs.Setting.{lists_of}
use Rattle.table.specs.declared.rules.CellRule.TheVariants.{Order}
use Rattle.table.specs.laws.Game.{place_within}
use Rattle.table.specs.Lists.{place_at}
use Rattle.table.proofs.RuleLemmas.{keeps_all, leads_there}
use Rattle.table.proofs.rules.Fitting.next_rank.Goals as goal

pub overflow_add-first : goal.overflow_add-first
overflow_add-first c =
    let within = place_within (lists_of c.args.self.now.setting) c.args.s c.loop-k.k c.args.self.now.fits c.requires.here c.requires.inner (omega arith) in
    omega (arith, within, c.args.self.now.setting.few_cells)

pub cell_rank-requires-clause-place : goal.cell_rank-requires-clause-place
cell_rank-requires-clause-place c =
    omega (arith, place_within (lists_of c.args.self.now.setting) c.args.s c.loop-k.k c.args.self.now.fits c.requires.here c.requires.inner (omega arith))

pub cell_rank-requires-clause-there : goal.cell_rank-requires-clause-there
cell_rank-requires-clause-there c = λ d below.
    let l = lists_of c.args.self.now.setting in
    let place = place_at l c.args.s c.loop-k.k in
    let e : c.cells_of-count.result.1 + c.loop-k.k ≡ place = omega arith in
    rw e (leads_there l c.args.s place d (keeps_all Order l c.args.s c.loop-k.k c.requires.ordered c.requires.here (omega arith)) (rw e at below))
