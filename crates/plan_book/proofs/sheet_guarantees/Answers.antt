use Rattle.plan_book.proofs.SheetLemmas.{sheet_guarantees}
use Rattle.plan_book.proofs.sheet_guarantees.Goals as goal

pub returns : goal.returns
returns g c = sheet_guarantees _ (g.met.G.Game.lawful c.args._g.now) c.args._sheet.now c.requires.lawful c.requires.some
