use Rattle.std.proofs.Common.{◌≡◌, ◌<◌, ◌∙◌, sym, rules, w32, SFits, arith}
use Rattle.std.proofs.lemmas.Int.{to_z-of_z}
use Rattle.sim_game.specs.Sides.{other_side, better}
use Rattle.table.specs.laws.Game.{has_draw}
use Rattle.table.specs.Lists.{draws_at}
use Rattle.table.specs.Setting.{cell_number, lists_of}
use Rattle.table.specs.Totals.{total_in, turn_total}
use Rattle.table.proofs.TotalLemmas.{total_told, worst_more}
use Rattle.table.proofs.rules.Shaped.cell_total.Goals as goal

pub turn_total-worst-requires-clause-draw : goal.turn_total-worst-requires-clause-draw
turn_total-worst-requires-clause-draw c =
    has_draw (lists_of c.args.self.now.setting) c.args.place 0 (cell_number c.cell-cell.result) c.args.self.now.valid.fits c.cell-cell.ensures (omega (arith, c.requires.cell.1.draws_low))

pub turn_total-total-requires-clause-draw : goal.turn_total-total-requires-clause-draw
turn_total-total-requires-clause-draw c =
    let below : c.loop-d.d < draws_at (lists_of c.args.self.now.setting) c.args.place = search rules in
    has_draw (lists_of c.args.self.now.setting) c.args.place c.loop-d.d (cell_number c.cell-cell.result) c.args.self.now.valid.fits c.cell-cell.ensures below

pub loop-d-preserved : goal.loop-d-preserved
loop-d-preserved c =
    let l = lists_of c.args.self.now.setting in
    let f = total_in c.args.totals.now c.args.side in
    let below : c.loop-d.d < draws_at (lists_of c.args.self.now.setting) c.args.place = search rules in
    let fits : SFits w32 c.worse-worst.result = record { sfits = c.worse-worst.type_inv } in
    let e : c.worse-worst.result ≡ better (other_side c.args.side) c.loop-d.worst c.turn_total-total.result = search rules in
    let total = total_told l f c.args.place c.loop-d.d (cell_number c.cell-cell.result) c.turn_total-total.result c.cell-cell.ensures c.turn_total-total.ensures in (
      omega arith,
      omega (arith, below),
      to_z-of_z w32 c.worse-worst.result fits
          ∙ worst_more c.args.side c.loop-d.d (turn_total l f c.args.place) c.loop-d.worst c.turn_total-total.result c.worse-worst.result
          c.loop-d.invariant.0 (sym c.loop-d.worst-is ∙ c.loop-d.invariant.2) total e,
    )
