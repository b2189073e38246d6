use Rattle.std.proofs.Common.{arith, sym}
use Rattle.table.specs.Setting.{cell_number, lists_of}
use Rattle.table.specs.laws.Game.{has_draw}
use Rattle.table.proofs.RuleLemmas.{told_weight, weight_is_more, weight_is_none}
use Rattle.table.proofs.rules.Fitting.are_weights.Goals.{then-weight-eq0-via-then-weight-eq0, then-weight-eq0-via-else-weight-eq0+then-weight-left}
use Rattle.table.proofs.rules.Fitting.are_weights.Goals as goal

pub returns-then-weight-eq0 : goal.returns-then-weight-eq0
returns-then-weight-eq0 c =
    let l = lists_of c.args.self.now.setting in
    let told = told_weight l c.args.place c.loop-d.d c.weight-weight.result (cell_number c.cell-cell.result) c.cell-cell.ensures c.weight-weight.ensures in
    elim c.then-weight-eq0.branch [
      | then-weight-eq0-via-then-weight-eq0 w ↦ sym (weight_is_none l c.args.place c.loop-d.d (omega arith) (omega (arith, told)))
      | then-weight-eq0-via-else-weight-eq0+then-weight-left w ↦ sym (weight_is_more l c.args.place c.loop-d.d c.loop-d.left c.loop-d.invariant (omega arith) (omega (arith, told)))
    ]

pub weight-weight-requires : goal.weight-weight-requires
weight-weight-requires c = has_draw (lists_of c.args.self.now.setting) c.args.place c.loop-d.d (cell_number c.cell-cell.result) c.args.self.now.fits c.cell-cell.ensures (omega arith)
