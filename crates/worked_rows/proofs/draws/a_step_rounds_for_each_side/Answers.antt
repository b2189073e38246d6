use Rattle.restricted_game.proofs.ChildLemmas.{no_child_rows}
use Rattle.worked_rows.proofs.draws.a_step_rounds_for_each_side.Goals as goal

pub step_root-end-requires-clause-children : goal.step_root-end-requires-clause-children
step_root-end-requires-clause-children g c = no_child_rows _ _ _ _ (rw c.root.ensures at c.in_ok-children.ensures)
