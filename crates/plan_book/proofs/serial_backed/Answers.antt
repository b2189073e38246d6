use Rattle.plan_book.proofs.SerialLemmas.{serial_backed}
use Rattle.plan_book.proofs.serial_backed.Goals as goal

pub returns : goal.returns
returns g c = serial_backed _ (g.met.G.Game.lawful c.args._g.now) c.args._side c.args._s c.requires
