use Rattle.pursuit.proofs.PositionLemmas.{one_setting}
use Rattle.pursuit.proofs.laws.position_has_one_game.Goals as goal

pub returns : goal.returns
returns c = one_setting
