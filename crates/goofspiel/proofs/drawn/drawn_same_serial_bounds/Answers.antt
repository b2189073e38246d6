use Rattle.goofspiel.proofs.SerialLemmas.{drawn_serial}
use Rattle.goofspiel.proofs.drawn.drawn_same_serial_bounds.Goals as goal

pub returns : goal.returns
returns c = drawn_serial
