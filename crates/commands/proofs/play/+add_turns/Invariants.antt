use Rattle.std.proofs.Common.{length}
use Rattle.commands.proofs.play.+add_turns.Given as goal

abbrev pub decreases-add_turns : goal.decreases-add_turns
decreases-add_turns g l = length l.turns.now
