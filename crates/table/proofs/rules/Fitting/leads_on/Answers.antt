use Rattle.std.proofs.Common.{arith, sym}
use Rattle.table.specs.Setting.{cell_number, lists_of}
use Rattle.table.specs.laws.Game.{has_draw}
use Rattle.table.proofs.RuleLemmas.{not_behind, not_there, told_state}
use Rattle.table.proofs.rules.Fitting.leads_on.Goals.{then-next-s-via-then-next-s, then-next-s-via-else-next-s+then-next-self}
use Rattle.table.proofs.rules.Fitting.leads_on.Goals as goal

pub returns-then-next-s : goal.returns-then-next-s
returns-then-next-s c =
    let told = told_state (lists_of c.args.self.now.setting) c.args.place c.loop-d.d c.state-next.result (cell_number c.cell-cell.result) c.cell-cell.ensures c.state-next.ensures in
    elim c.then-next-s.branch [
      | then-next-s-via-then-next-s w ↦ sym (not_behind (lists_of c.args.self.now.setting) c.args.s c.args.place c.loop-d.d (omega arith) (omega (arith, told)))
      | then-next-s-via-else-next-s+then-next-self w ↦ sym (not_there (lists_of c.args.self.now.setting) c.args.s c.args.place c.loop-d.d (omega arith) (omega (arith, told)))
    ]

pub state-next-requires : goal.state-next-requires
state-next-requires c = has_draw (lists_of c.args.self.now.setting) c.args.place c.loop-d.d (cell_number c.cell-cell.result) c.args.self.now.fits c.cell-cell.ensures (omega arith)
