use Rattle.goofspiel.proofs.PositionLemmas.{one_setting}
use Rattle.goofspiel.proofs.position.position_has_one_game.Goals as goal

pub returns : goal.returns
returns c = λ one two prizes score pay g h p q. one_setting one two prizes score pay g h p q
