use Rattle.std.proofs.Common.{◌≡◌, ◌+◌, ◌-◌, ◌∙◌, ℤ, List, cond, eqb, ap, subst, w32, SFits, arith}
use Rattle.std.proofs.lemmas.Int.{to_z-of_z}
use Rattle.sim_game.specs.declared.Side.TheVariants.{One, Two}
use Rattle.table.specs.Lists.{table_rank, table_value}
use Rattle.table.specs.Setting.{lists_of}
use Rattle.table.specs.Totals.{next_total, total_in}
use Rattle.table.proofs.TotalLemmas.{totals_more, AreTotalsFrom}
use Rattle.table.proofs.rules.Shaped.totals.Goals as goal

pub loop-s-preserved : goal.loop-s-preserved
loop-s-preserved c =
    let l = lists_of c.args.self.now.setting in
    let s = c.loop-s.s - 1 in
    let e : c.loop-s.s ≡ (c.loop-s.s - 1) + 1 = omega (arith, c.loop-s-test.true) in
    let from = subst (λ k. AreTotalsFrom l k c.loop-s.totals.items) e c.loop-s.invariant in
    let least = c.state_total-least.ensures ∙ ap (λ (zs : List ℤ). cond (eqb (table_rank l s) 0) (table_value l s) (next_total l One (total_in zs One) s)) c.as_slice.ensures.value in
    let most = c.state_total-most.ensures ∙ ap (λ (zs : List ℤ). cond (eqb (table_rank l s) 0) (table_value l s) (next_total l Two (total_in zs Two) s)) c.as_slice-in-loop-s.ensures.value in
    let fits_least : SFits w32 c.state_total-least.result = record { sfits = c.state_total-least.type_inv } in
    let fits_most : SFits w32 c.state_total-most.result = record { sfits = c.state_total-most.type_inv } in
    rw (to_z-of_z w32 c.state_total-least.result fits_least, to_z-of_z w32 c.state_total-most.result fits_most)
    (totals_more l c.args.self.now.valid c.requires s c.loop-s.totals.items from c.state_total-least.result c.state_total-most.result least most)
