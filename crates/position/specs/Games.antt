-- The games, one by one: the position that an object gives, the first rule that it breaks, what is told of it, and the
-- model of its game.
use Rattle.std.specs.Prelude.{◌≡◌, ⊤, ℕ, ◌+◌, ◌-◌, ◌*◌, ◌≤◌, max, nat_lt, ℤ, Bool, true, false, ◌&&◌, if◌then◌else◌, List, [], ◌++◌, length, codes, Option, Some, None, option_map, Result, Ok}
use Rattle.serde_json.specs.Data.{Data}
use Rattle.sim_game.specs.Model.{GameModel}
use Rattle.goofspiel.specs.declared.Goofspiel.{Goofspiel as GoofspielGame}
use Rattle.goofspiel.specs.Position as goofspiel
use Rattle.goofspiel.specs.Refusals as goofspiel_refusals
use Rattle.goofspiel.specs.Cards.{rising}
use Rattle.goofspiel.specs.Rules.{goofspiel_game}
use Rattle.goofspiel.specs.declared.drawn.GoofspielDrawn.{GoofspielDrawn as DrawnGame}
use Rattle.goofspiel.specs.DrawnRules.{drawn_game}
use Rattle.oshi_zumo.specs.declared.OshiZumo.{OshiZumo as OshiZumoGame}
use Rattle.oshi_zumo.specs.Position as oshi_zumo
use Rattle.oshi_zumo.specs.Refusals as oshi_zumo_refusals
use Rattle.oshi_zumo.specs.Rules.{oshi_zumo_game}
use Rattle.tron.specs.declared.Tron.{Tron as TronGame}
use Rattle.tron.specs.Position as tron
use Rattle.tron.specs.Refusals as tron_refusals
use Rattle.tron.specs.Rules.{tron_game}
use Rattle.pursuit.specs.declared.Pursuit.{Pursuit as PursuitGame}
use Rattle.pursuit.specs.Position as pursuit
use Rattle.pursuit.specs.Refusals as pursuit_refusals
use Rattle.pursuit.specs.Rules.{graph_of_edges, pursuit_game, width_of}
use Rattle.table.specs.declared.Table.{Table as TableGame}
use Rattle.table.specs.Faults as table
use Rattle.table.specs.Lists.{lists_from, table_width}
use Rattle.table.specs.Refusals as table_refusals
use Rattle.table.specs.Rules.{table_game}
use Rattle.table.specs.Setting.{lists_of, IsSettingOf}
use Rattle.sim_game.specs.declared.Limits.{Limits}
use Rattle.sim_game.specs.declared.Limits.TheVariants.{Narrow, Wide}
use Rattle.fields.specs.declared.positions.GameKind.{GameKind}
use Rattle.fields.specs.declared.positions.GameKind.TheVariants as kinds
use Rattle.fields.specs.declared.positions.TheConstants.{NARROW_MOVES}
use Rattle.fields.specs.declared.positions.PositionText.{PositionText}
use Rattle.fields.specs.declared.positions.PositionText.TheVariants as texts
use Rattle.fields.specs.Fields.{name_of}
use Rattle.fields.specs.Positions.{fields_of, position_with}
use Rattle.position.specs.declared.games.TheConstants.{LEAST_WIDE_WEIGHT}
use Rattle.position.specs.declared.games.InputError.{InputError}
use Rattle.position.specs.declared.games.InputError.TheVariants as errors
use Rattle.position.specs.declared.games.AnyGame.{AnyGame}
use Rattle.position.specs.declared.games.AnyGame.TheVariants.{Goofspiel, OshiZumo, Tron, GoofspielDrawn, Pursuit, Table}
use Rattle.position.specs.Objects.{◌>>=◌, values_at}
use Rattle.position.specs.States.{states_at}

-- a table tells its states, and each other game its fields
abbrev pub is_table : GameKind → Bool
is_table kinds.Table = true
is_table game = false

unfoldable pub position_text_in : Limits → GameKind → Data → Result PositionText InputError
position_text_in limits game d = if is_table game then states_at limits d else do
  vs ← values_at (fields_of Wide game) d
  Ok (position_with game vs)

-- ---- what is told of a refusal
-- want of memory has the number 0 and no words
abbrev pub told_of : InputError → ℕ × List ℕ
told_of errors.NotJson = (10, codes "not json")
told_of errors.NotObject = (11, codes "not an object")
told_of (errors.Missing field) = (12, codes "missing " ++ name_of field)
told_of errors.Unknown = (13, codes "unknown field")
told_of (errors.Kind field) = (14, codes "kind of " ++ name_of field)
told_of (errors.Range field) = (15, codes "range of " ++ name_of field)
told_of errors.GameName = (16, codes "game name")
told_of (errors.Goofspiel e) = (goofspiel_refusals.number_of e, goofspiel_refusals.words_of e)
told_of (errors.OshiZumo e) = (oshi_zumo_refusals.number_of e, oshi_zumo_refusals.words_of e)
told_of (errors.Tron e) = (tron_refusals.number_of e, tron_refusals.words_of e)
told_of (errors.Pursuit e) = (pursuit_refusals.number_of e, pursuit_refusals.words_of e)
told_of (errors.Table e) = (table_refusals.number_of e, table_refusals.words_of e)
told_of errors.TooLong = (50, codes "too long")
told_of errors.Weight = (91, codes "weight")
told_of errors.NoMemory = (0, [])

abbrev pub code_of : InputError → ℕ
code_of e = (told_of e).0

abbrev pub words_of : InputError → List ℕ
words_of e = (told_of e).1

-- ---- the game of a position
-- the first rule of the game that the position breaks, within the limits, and the most moves of a side, as its model has it
pub record TextRules : Type 0 where
  pub fault : Limits → Option InputError
  pub width : ℕ

abbrev pub rules_of : PositionText → TextRules
rules_of (texts.Goofspiel one two prizes score pay) = record {
  fault = λ limits. option_map errors.Goofspiel (goofspiel.first_fault one two prizes score);
  width = max 1 (length (rising one));
}
rules_of (texts.OshiZumo size one two least place) = record {
  fault = λ limits. option_map errors.OshiZumo (oshi_zumo.first_fault limits (oshi_zumo.setting_of size one two least place));
  width = max 1 (max (one + 1 - least) (two + 1 - least));
}
rules_of (texts.Tron height width walls one two) = record {
  fault = λ limits. option_map errors.Tron (tron.first_fault height width walls one two);
  width = 4;
}
rules_of (texts.GoofspielDrawn one two prizes score pay) = record {
  fault = λ limits. option_map errors.Goofspiel (goofspiel.first_fault one two prizes score);
  width = max 1 (length (rising one));
}
rules_of (texts.Pursuit nodes edges one two rounds) = record {
  fault = λ limits. option_map errors.Pursuit (pursuit.first_fault limits nodes edges one two rounds);
  width = width_of (graph_of_edges nodes edges);
}
rules_of (texts.Table ranks moves values cells draws rewards) = record {
  fault = λ limits. option_map errors.Table (table.first_fault limits (lists_from ranks moves values cells draws rewards));
  width = table_width (lists_from ranks moves values cells draws rewards);
}

abbrev pub fault_of : Limits → PositionText → Option InputError
fault_of limits text = (rules_of text).fault limits

abbrev pub text_width : PositionText → ℕ
text_width text = (rules_of text).width

-- The weight is too small for a game that is wider than the narrow limits allow: the rounds that linear stages fall back
-- on hold their law where it is at least 8 times the square of the width.
abbrev pub weight_fault : Limits → ℕ → ℕ → Option InputError
weight_fault Narrow width weight = None
weight_fault Wide width weight = if nat_lt NARROW_MOVES width && nat_lt weight LEAST_WIDE_WEIGHT then Some errors.Weight else None

-- weights of this total are fine enough for the game of the position
abbrev pub IsFineTotal : PositionText → ℕ → Type 0
IsFineTotal text weight = 8 * (text_width text * text_width text) ≤ weight

-- these are the totals of the position's states, where the game keeps some beside the text
abbrev pub HasTotalsOf : PositionText → List ℤ → Type 0
HasTotalsOf (texts.Table ranks moves values cells draws rewards) totals = table.HasTotals (lists_from ranks moves values cells draws rewards) totals
HasTotalsOf text totals = ⊤

-- the game is of the same kind, and its setting is that of the position
abbrev pub IsGameOf : PositionText → AnyGame → Type 0
IsGameOf (texts.Goofspiel one two prizes score pay) (Goofspiel g) = goofspiel.IsSettingOf one two prizes score pay g.setting
IsGameOf (texts.OshiZumo size one two least place) (OshiZumo g) = oshi_zumo.IsSettingOf size one two least place g.setting
IsGameOf (texts.Tron height width walls one two) (Tron g) = tron.IsSettingOf height width walls one two g.setting
IsGameOf (texts.GoofspielDrawn one two prizes score pay) (GoofspielDrawn g) = goofspiel.IsSettingOf one two prizes score pay g.setting
IsGameOf (texts.Pursuit nodes edges one two rounds) (Pursuit g) = pursuit.IsSettingOf nodes edges one two rounds g.setting
IsGameOf (texts.Table ranks moves values cells draws rewards) (Table g) = IsSettingOf ranks moves values cells draws rewards g.setting
IsGameOf text game = ⊥

-- ---- its model
-- a model, with its states and the most moves of a side
pub record AnyModel : Type 1 where
  pub State : Type 0
  pub model : GameModel State
  pub width : ℕ

abbrev any_model : {S : Type 0} → GameModel S → AnyModel
any_model {S = S} m = record { State = S; model = m; width = m.width }

abbrev pub any_model_of : AnyGame → AnyModel
any_model_of (Goofspiel g) = any_model (goofspiel_game g.setting)
any_model_of (OshiZumo g) = any_model (oshi_zumo_game g.setting)
any_model_of (Tron g) = any_model (tron_game g.setting)
any_model_of (GoofspielDrawn g) = any_model (drawn_game g.setting)
any_model_of (Pursuit g) = any_model (pursuit_game g.setting)
any_model_of (Table g) = any_model (table_game (lists_of g.setting))

abbrev pub state_type : AnyGame → Type 0
state_type any = (any_model_of any).State

abbrev pub model_of : (any : AnyGame) → GameModel (state_type any)
model_of any = (any_model_of any).model

abbrev pub any_width : AnyGame → ℕ
any_width any = (any_model_of any).width

-- weights of this total are fine enough for stages of the game
abbrev pub IsFineFor : AnyGame → ℕ → Type 0
IsFineFor any weight = 8 * (any_width any * any_width any) ≤ weight

-- the property holds of a game that this is
abbrev pub OfSame : AnyGame → ((S : Type 0) → GameModel S → Type 0) → Type 0
OfSame any P = (g : AnyGame) × (any ≡ g) × P (state_type g) (model_of g)

-- the property holds of the game of the position, which can be played
abbrev pub OfGame : PositionText → ((S : Type 0) → GameModel S → Type 0) → Type 0
OfGame text P = (g : AnyGame) × IsGameOf text g × P (state_type g) (model_of g)

-- both are of one kind and have one setting, of which the model is made
abbrev pub IsSameGame : AnyGame → AnyGame → Type 0
IsSameGame (Goofspiel g) other = (h : GoofspielGame) × (other ≡ Goofspiel h) × (g.setting ≡ h.setting)
IsSameGame (OshiZumo g) other = (h : OshiZumoGame) × (other ≡ OshiZumo h) × (g.setting ≡ h.setting)
IsSameGame (Tron g) other = (h : TronGame) × (other ≡ Tron h) × (g.setting ≡ h.setting)
IsSameGame (GoofspielDrawn g) other = (h : DrawnGame) × (other ≡ GoofspielDrawn h) × (g.setting ≡ h.setting)
IsSameGame (Pursuit g) other = (h : PursuitGame) × (other ≡ Pursuit h) × (g.setting ≡ h.setting)
IsSameGame (Table g) other = (h : TableGame) × (other ≡ Table h) × (lists_of g.setting ≡ lists_of h.setting)
