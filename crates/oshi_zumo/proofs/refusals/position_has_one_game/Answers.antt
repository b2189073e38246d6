use Rattle.oshi_zumo.proofs.PositionLemmas.{one_setting}
use Rattle.oshi_zumo.proofs.refusals.position_has_one_game.Goals as goal

pub returns : goal.returns
returns c = λ size one two least place g h p q. one_setting size one two least place g h p q
