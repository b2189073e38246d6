use Rattle.std.proofs.Common.{◌<◌, length}
use Rattle.shared_board.proofs.known.KnownRows.find.Given as goal

abbrev pub invariant-loop-tried : goal.invariant-loop-tried
invariant-loop-tried l = l.at < length l.places
