use Rattle.bounds_board.specs.Views.{IsLater}
use Rattle.worked_rows.proofs.boards.claim_each.Given as goal

abbrev pub invariant-loop-key : goal.invariant-loop-key
invariant-loop-key g l = IsLater (g.B.Bounds.view l.initial.board) (g.B.Bounds.view l.board)
