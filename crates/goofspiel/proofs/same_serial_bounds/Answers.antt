use Rattle.goofspiel.proofs.SerialLemmas.{known_serial}
use Rattle.goofspiel.proofs.same_serial_bounds.Goals as goal

pub returns : goal.returns
returns c = known_serial
