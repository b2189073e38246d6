use Rattle.std.proofs.Common.{arith, sym, ◌∙◌}
use Rattle.table.specs.Setting.{lists_of}
use Rattle.table.specs.laws.Below.{found_at, none_below}
use Rattle.table.specs.Faults.{fault_in}
use Rattle.table.specs.laws.Game.{place_within}
use Rattle.table.specs.Lists.{cells_of}
use Rattle.table.proofs.RuleLemmas.{fault_here, no_cells}
use Rattle.table.proofs.rules.Fitting.cell_fault.Goals as goal

pub returns-then-rank-eq0 : goal.returns-then-rank-eq0
returns-then-rank-eq0 c =
    let l = lists_of c.args.self.now.setting in
    sym (none_below (cells_of l c.args.s) (fault_in c.args.rule l c.args.s) (λ k below. absurd (omega (arith, no_cells l c.args.s c.args.self.now.fits c.requires (omega arith)))))

pub overflow_add-first : goal.overflow_add-first
overflow_add-first c = omega (arith, place_within (lists_of c.args.self.now.setting) c.args.s c.loop-k.k c.args.self.now.fits c.requires (omega arith) (omega arith), c.args.self.now.setting.few_cells)

pub keeps-requires : goal.keeps-requires
keeps-requires c = omega (arith, place_within (lists_of c.args.self.now.setting) c.args.s c.loop-k.k c.args.self.now.fits c.requires (omega arith) (omega arith))

pub returns-then-not-keeps : goal.returns-then-not-keeps
returns-then-not-keeps c =
    let l = lists_of c.args.self.now.setting in
    sym (found_at (cells_of l c.args.s) (fault_in c.args.rule l c.args.s) c.loop-k.k c.error.result c.loop-k.invariant (omega arith)
    (fault_here c.args.rule l c.args.s c.loop-k.k _ c.moves-columns.result c.error.result (omega arith) (sym c.keeps.ensures ∙ c.if-not-keeps.true) c.moves-columns.ensures c.error.ensures))

pub returns : goal.returns
returns c =
    let l = lists_of c.args.self.now.setting in
    sym (none_below (cells_of l c.args.s) (fault_in c.args.rule l c.args.s) (λ k below. c.loop-k.invariant k (omega arith)))
