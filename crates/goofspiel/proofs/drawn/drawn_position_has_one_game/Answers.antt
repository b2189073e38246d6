use Rattle.std.proofs.Common.{ap}
use Rattle.goofspiel.specs.DrawnRules.{drawn_game}
use Rattle.goofspiel.proofs.PositionLemmas.{one_setting}
use Rattle.goofspiel.proofs.drawn.drawn_position_has_one_game.Goals as goal

pub returns : goal.returns
returns c = λ one two prizes score pay g h p q. ap drawn_game (one_setting one two prizes score pay g h p q)
