use Rattle.std.proofs.Common.{◌≡◌, true}
use Rattle.shared_board.specs.Values.{IsPassOf}
use Rattle.worked_rows.proofs.boards.split_and_join.Given as goal

abbrev pub invariant-loop-time : goal.invariant-loop-time
invariant-loop-time g l = IsPassOf l.board l.lead × (l.lead.view.lead ≡ true)
