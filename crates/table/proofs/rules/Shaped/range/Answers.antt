use Rattle.std.proofs.Common.{◌≡◌, ◌-◌, ◌∙◌, true, not, ap, sym, w32, SFits, arith}
use Rattle.std.proofs.lemmas.Bool.{cond-true}
use Rattle.std.proofs.lemmas.Int.{to_z-of_z}
use Rattle.table.specs.Below.{worst_upto}
use Rattle.table.specs.laws.Below.{worst_same}
use Rattle.table.specs.Lists.{has_rewards, state_count}
use Rattle.table.specs.Setting.{lists_of}
use Rattle.table.specs.Totals.{state_total, total_in, worst_payoff}
use Rattle.table.proofs.rules.Shaped.range.Goals as goal

pub returns-else-is_empty : goal.returns-else-is_empty
returns-else-is_empty c =
    let l = lists_of c.args.self.now.setting in
    let side = c.args.side in
    let paid : has_rewards (lists_of c.args.self.now.setting) ≡ true = ap not (sym c.if-is_empty.ensures) in
    let fits : SFits w32 c.worst_total.result = record { sfits = c.worst_total.type_inv } in
    to_z-of_z w32 c.worst_total.result fits ∙ c.worst_total.ensures
    ∙ worst_same side (state_count l - 1) (total_in c.args.totals.now side) (state_total l side) (λ s le. (c.requires paid).each side s (omega (arith, le, c.args.self.now.valid.some)))
    ∙ sym (cond-true (has_rewards l) (worst_upto side (state_count l - 1) (state_total l side)) (worst_payoff l side) paid)
