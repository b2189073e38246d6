use Rattle.shared_board.proofs.PlaceLemmas.{places_put}
use Rattle.shared_board.proofs.known.KnownRows.keep.Goals as goal

pub returns : goal.returns
returns c = places_put _ _ _ c.put.ensures.0 _ c.make_room.ensures c.put.ensures.1
