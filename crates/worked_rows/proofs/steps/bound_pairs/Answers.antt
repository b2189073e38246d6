use Rattle.bounds_board.proofs.ViewLemmas.{later_trans}
use Rattle.worked_rows.proofs.steps.bound_pairs.Goals as goal

pub loop-pair-preserved : goal.loop-pair-preserved
loop-pair-preserved g c = later_trans _ _ _ c.loop-pair.invariant c.bound_state.ensures.later
