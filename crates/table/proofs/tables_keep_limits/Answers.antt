use Rattle.table.proofs.PositionLemmas.{fault_others, fault_wider, turns_kept, width_kept}
use Rattle.table.proofs.tables_keep_limits.Goals as goal

pub returns-clause-width : goal.returns-clause-width
returns-clause-width c = width_kept

pub returns-clause-turns : goal.returns-clause-turns
returns-clause-turns c = turns_kept

pub returns-clause-others : goal.returns-clause-others
returns-clause-others c = fault_others

pub returns-clause-wider : goal.returns-clause-wider
returns-clause-wider c = fault_wider
