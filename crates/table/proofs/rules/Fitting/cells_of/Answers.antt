use Rattle.std.proofs.Common.{arith}
use Rattle.table.specs.Setting.{lists_of}
use Rattle.table.proofs.RuleLemmas.{cells_few}
use Rattle.table.proofs.rules.Fitting.cells_of.Goals as goal

pub overflow_mul-count : goal.overflow_mul-count
overflow_mul-count c =
    let few = cells_few (lists_of c.args.self.now.setting) c.args.s c.args.self.now.fits c.requires.here in
    rw (c.moves.ensures, c.moves-2.ensures) (omega (arith, few, c.args.self.now.setting.few_cells))
