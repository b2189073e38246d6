use Rattle.restricted_game.proofs.ChildLemmas.{no_child_rows}
use Rattle.worked_rows.proofs.steps.third_step.Goals as goal

pub step_root-first-requires-clause-children : goal.step_root-first-requires-clause-children
step_root-first-requires-clause-children g c = no_child_rows _ _ _ _ (rw c.root-root.ensures at c.in_ok-children.ensures)
