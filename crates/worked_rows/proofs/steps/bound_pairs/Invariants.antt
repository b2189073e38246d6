use Rattle.bounds_board.specs.Views.{IsLater}
use Rattle.worked_rows.proofs.steps.bound_pairs.Given as goal

abbrev pub invariant-loop-pair : goal.invariant-loop-pair
invariant-loop-pair g l = IsLater (g.B.Bounds.view l.initial.board) (g.B.Bounds.view l.board)
