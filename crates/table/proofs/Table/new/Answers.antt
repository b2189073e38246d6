use Rattle.std.proofs.Common.{◌≡◌, true, sym, subst}
use Rattle.table.specs.declared.setting.Setting.{Setting}
use Rattle.table.specs.Lists.{has_rewards}
use Rattle.table.specs.Setting.{lists_of}
use Rattle.table.specs.Totals.{AreStateTotals}
use Rattle.table.proofs.PositionLemmas.{shape_wider}
use Rattle.table.proofs.Table.new.Goals as goal

pub table-requires : goal.table-requires
table-requires c =
    let is = c.in_ok-shaped.ensures in
    subst (λ (setting : Setting). has_rewards (lists_of setting) ≡ true → AreStateTotals (lists_of setting) c.args.totals.now) (sym is.1)
    (λ paid. c.requires paid (shape_wider c.args.limits (lists_of c.args.setting) is.0))
