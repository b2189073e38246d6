use Rattle.tron.proofs.PositionLemmas.{one_setting}
use Rattle.tron.proofs.position.position_has_one_game.Goals as goal

pub returns : goal.returns
returns c = λ height width walls one two g h p q. one_setting height width walls one two g h p q
