use Rattle.shared_board.proofs.SeatLemmas.{keeps}
use Rattle.shared_board.proofs.laws.each_step_keeps.Goals as goal

pub returns : goal.returns
returns g c = keeps (g.G.Game.model c.args.game) (g.met.G.Game.lawful c.args.game) c.args.game c.args.rows
