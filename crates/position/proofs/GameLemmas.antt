-- The games, one by one: what was built, and that a position has one game.
use Rattle.std.proofs.Common.{refl, sym, ◌∙◌, subst}
use Rattle.sim_game.specs.Model.{GameModel, IsGame}
use Rattle.goofspiel.specs.laws.Game.{goofspiel_is_game}
use Rattle.goofspiel.specs.Rules.{goofspiel_game}
use Rattle.goofspiel.proofs.PositionLemmas as goofspiel_position
use Rattle.goofspiel.specs.laws.Drawn.{drawn_is_game}
use Rattle.goofspiel.specs.DrawnRules.{drawn_game}
use Rattle.oshi_zumo.specs.laws.Game.{oshi_zumo_is_game}
use Rattle.oshi_zumo.specs.Rules.{oshi_zumo_game}
use Rattle.oshi_zumo.proofs.PositionLemmas as oshi_zumo_position
use Rattle.tron.specs.laws.Game.{tron_is_game}
use Rattle.tron.specs.Rules.{tron_game}
use Rattle.tron.proofs.PositionLemmas as tron_position
use Rattle.pursuit.specs.laws.Game.{pursuit_is_game}
use Rattle.pursuit.specs.Rules.{pursuit_game}
use Rattle.pursuit.proofs.PositionLemmas as pursuit_position
use Rattle.table.specs.laws.Game.{table_is_game}
use Rattle.table.specs.Rules.{table_game}
use Rattle.table.specs.Setting.{lists_of}
use Rattle.fields.specs.declared.positions.PositionText.{PositionText}
use Rattle.fields.specs.declared.positions.PositionText.TheVariants as texts
use Rattle.position.specs.declared.games.AnyGame.{AnyGame}
use Rattle.position.specs.declared.games.AnyGame.TheVariants.{Goofspiel, OshiZumo, Tron, GoofspielDrawn, Pursuit, Table}
use Rattle.position.specs.Games.{IsGameOf, state_type, model_of, OfSame, OfGame, IsSameGame}

pub one_game : (text : PositionText) (g h : AnyGame) → IsGameOf text g → IsGameOf text h → IsSameGame g h
one_game (texts.Goofspiel one two prizes score pay) (Goofspiel g) (Goofspiel h) p q = (h, refl, goofspiel_position.one_setting one two prizes score pay g.setting h.setting p q)
one_game (texts.OshiZumo size one two least place) (OshiZumo g) (OshiZumo h) p q = (h, refl, oshi_zumo_position.one_setting size one two least place g.setting h.setting p q)
one_game (texts.Tron height width walls one two) (Tron g) (Tron h) p q = (h, refl, tron_position.one_setting height width walls one two g.setting h.setting p q)
one_game (texts.GoofspielDrawn one two prizes score pay) (GoofspielDrawn g) (GoofspielDrawn h) p q = (h, refl, goofspiel_position.one_setting one two prizes score pay g.setting h.setting p q)
one_game (texts.Pursuit nodes edges one two rounds) (Pursuit g) (Pursuit h) p q = (h, refl, pursuit_position.one_setting nodes edges one two rounds g.setting h.setting p q)
one_game (texts.Table ranks moves values cells draws rewards) (Table g) (Table h) p q = (h, refl, p ∙ sym q)
one_game text g h p q = absurd (assumption (p, q))

-- a property of the model of one is one of that of the other
pub of_same : (P : (S : Type 0) → GameModel S → Type 0) (g h : AnyGame) → IsSameGame g h → P (state_type g) (model_of g) → P (state_type h) (model_of h)
of_same P (Goofspiel g) h (other, is, same) p = rw is (subst (λ s. P _ (goofspiel_game s)) same p)
of_same P (OshiZumo g) h (other, is, same) p = rw is (subst (λ s. P _ (oshi_zumo_game s)) same p)
of_same P (Tron g) h (other, is, same) p = rw is (subst (λ s. P _ (tron_game s)) same p)
of_same P (GoofspielDrawn g) h (other, is, same) p = rw is (subst (λ s. P _ (drawn_game s)) same p)
of_same P (Pursuit g) h (other, is, same) p = rw is (subst (λ s. P _ (pursuit_game s)) same p)
of_same P (Table g) h (other, is, same) p = rw is (subst (λ l. P _ (table_game l)) same p)

-- what holds of a game that this is holds of this
pub of_this : (P : (S : Type 0) → GameModel S → Type 0) (any : AnyGame) → OfSame any P → P (state_type any) (model_of any)
of_this P any (g, same, p) = subst (λ g. P (state_type g) (model_of g)) (sym same) p

pub is_game : (g : AnyGame) → IsGame (model_of g)
is_game (Goofspiel g) = goofspiel_is_game g.setting g.valid
is_game (OshiZumo g) = oshi_zumo_is_game g.setting g.valid
is_game (Tron g) = tron_is_game g.setting g.valid
is_game (GoofspielDrawn g) = drawn_is_game g.setting g.valid
is_game (Pursuit g) = pursuit_is_game g.setting g.valid
is_game (Table g) = table_is_game (lists_of g.setting) g.valid g.small

-- what follows from a property of the game
pub of_game_weaker : (text : PositionText) (P Q : (S : Type 0) → GameModel S → Type 0) → ((S : Type 0) (m : GameModel S) → P S m → Q S m) → OfGame text P → OfGame text Q
of_game_weaker text P Q by (g, is, p) = (g, is, by (state_type g) (model_of g) p)

-- two properties of the game are of one game
pub of_one_game : (text : PositionText) (P Q : (S : Type 0) → GameModel S → Type 0) (R : Type 0) → ((S : Type 0) (m : GameModel S) → IsGame m → P S m → Q S m → R) → OfGame text P → OfGame text Q → R
of_one_game text P Q R by (g, is, p) (h, it, q) =
    by (state_type h) (model_of h) (is_game h) (of_same P g h (one_game text g h is it) p) q
