use Rattle.std.proofs.Common.{ap, ◌∙◌}
use Rattle.table.specs.declared.setting.Setting.{Setting}
use Rattle.table.specs.Lists.{is_chance_free, table_width}
use Rattle.table.specs.Setting.{lists_of}
use Rattle.table.proofs.PositionLemmas.{small_of}
use Rattle.table.proofs.rules.Shaped.table.Goals as goal

pub invariant_of-result-clause-small : goal.invariant_of-result-clause-small
invariant_of-result-clause-small c = small_of (lists_of c.args.self.now.setting) c.in_ok-check_last.ensures

pub invariant_of-result-clause-width_is : goal.invariant_of-result-clause-width_is
invariant_of-result-clause-width_is c = c.width.ensures ∙ ap (λ (setting : Setting). table_width (lists_of setting)) c.fitting-lists.ensures

pub invariant_of-result-clause-chance_free_is : goal.invariant_of-result-clause-chance_free_is
invariant_of-result-clause-chance_free_is c = c.is_chance_free.ensures ∙ ap (λ (setting : Setting). is_chance_free (lists_of setting)) c.fitting-lists.ensures
