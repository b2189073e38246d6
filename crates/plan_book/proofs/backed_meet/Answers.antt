use Rattle.plan_book.proofs.BackedLemmas.{backed_meet}
use Rattle.plan_book.proofs.backed_meet.Goals as goal

pub returns : goal.returns
returns g c = λ lower upper one two. backed_meet _ (g.met.G.Game.lawful c.args._g.now) c.args._s lower upper c.requires one two
