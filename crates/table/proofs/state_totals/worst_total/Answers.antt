use Rattle.std.proofs.Common.{◌≡◌, ◌∙◌, sym, rules, w32, SFits, arith}
use Rattle.std.proofs.lemmas.Int.{to_z-of_z}
use Rattle.sim_game.specs.Sides.{other_side, better}
use Rattle.table.specs.Totals.{total_in}
use Rattle.table.proofs.TotalLemmas.{worst_more}
use Rattle.table.proofs.state_totals.worst_total.Goals as goal

pub loop-s-preserved : goal.loop-s-preserved
loop-s-preserved c =
    let fits : SFits w32 c.worse-worst.result = record { sfits = c.worse-worst.type_inv } in
    let e : c.worse-worst.result ≡ better (other_side c.args.side) c.loop-s.worst c.total_in-total.result = search rules in (
      omega arith,
      omega (arith, c.loop-s-test.true),
      to_z-of_z w32 c.worse-worst.result fits
          ∙ worst_more c.args.side c.loop-s.s (total_in c.args.totals.now c.args.side) c.loop-s.worst c.total_in-total.result c.worse-worst.result
          c.loop-s.invariant.0 (sym c.loop-s.worst-is ∙ c.loop-s.invariant.2) c.total_in-total.ensures e,
    )
