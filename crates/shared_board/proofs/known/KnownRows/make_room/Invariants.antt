use Rattle.shared_board.proofs.PlaceLemmas.{AreWider}
use Rattle.shared_board.proofs.known.KnownRows.make_room.Given as goal

abbrev pub invariant-loop-place : goal.invariant-loop-place
invariant-loop-place l = AreWider l.fn.self.places.items l.wider.places.items
