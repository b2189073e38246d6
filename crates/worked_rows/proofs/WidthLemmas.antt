-- The games of the tests have few moves.
use Rattle.std.proofs.Common.{◌≡◌, ◌*◌, ◌≤◌, pos, arith}
use Rattle.std.proofs.Math.Nat.{mul-le-mul}
use Rattle.sim_game.specs.Model.{GameModel}
use Rattle.goofspiel.specs.declared.Goofspiel.{Goofspiel}
use Rattle.goofspiel.specs.laws.Cards.{few_cards}
use Rattle.goofspiel.specs.Rules.{goofspiel_game}
use Rattle.oshi_zumo.specs.declared.Setting.{Setting}
use Rattle.oshi_zumo.specs.Position.{setting_of}
use Rattle.oshi_zumo.specs.Rules.{oshi_zumo_game}
use Rattle.worked_rows.specs.Weights.{HasFewMoves}

few_moves : {S : Type 0} (m : GameModel S) → m.width ≤ 32 → HasFewMoves m
few_moves m few = record {
  few = few;
  fine = λ total least. let square : m.width * m.width ≤ 32 * 32 = mul-le-mul few few in omega (arith, square, least);
}

pub cards_few : (g : Goofspiel) → HasFewMoves (goofspiel_game g.setting)
cards_few g = few_moves (goofspiel_game g.setting) (omega (arith, few_cards g.setting.one g.valid.one_small))

pub push_few : (g : Setting) → g ≡ setting_of 0 1 0 1 (pos 0) → HasFewMoves (oshi_zumo_game g)
push_few g is = few_moves (oshi_zumo_game g) (rw is (omega arith))
