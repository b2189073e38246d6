use Rattle.plan_book.proofs.SerialLemmas.{bound_backed}
use Rattle.plan_book.proofs.sheet_backed.Goals as goal

pub returns : goal.returns
returns g c = bound_backed _ (g.met.G.Game.lawful c.args._g.now) c.args._sheet.now c.requires.lawful c.args._s c.requires.reachable
