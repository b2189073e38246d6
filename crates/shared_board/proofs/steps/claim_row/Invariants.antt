use Rattle.std.proofs.Common.{◌≡◌}
use Rattle.shared_board.specs.Words.{row_after}
use Rattle.shared_board.specs.Plays.{IsAt}
use Rattle.shared_board.specs.Marks.{AreMarks}
use Rattle.shared_board.proofs.ClaimLemmas.{SoFar}
use Rattle.shared_board.proofs.steps.claim_row.Given as goal

abbrev pub invariant-loop-tried : goal.invariant-loop-tried
invariant-loop-tried g l = IsAt l.words.table_id l.seat.table_id l.seat.me × (l.seat.id ≡ l.initial.seat.id)
    × SoFar g.G.Game.model l.rows l.key l.tried l.initial.seat.me.0 l.seat.me.0 × (l.row ≡ row_after l.rows l.key l.tried)
    × AreMarks l.seat.me.0.keys l.marks.by_row.items
