-- The position that bytes give and what is asked of it, or the first refusal.
use Rattle.std.specs.Prelude.{ℕ, Bool, ◌&&◌, List, length, nat_lt, if◌then◌else◌, is_some, Option, Some, None, Result, Ok, Err}
use Rattle.serde_json.specs.Data.{Data}
use Rattle.serde_json.specs.Find.{as_object}
use Rattle.fields.specs.declared.positions.GameKind.{GameKind}
use Rattle.fields.specs.declared.positions.PositionText.{PositionText}
use Rattle.fields.specs.declared.ask.Ask.{Ask}
use Rattle.fields.specs.declared.field.Word.TheVariants.{Linear}
use Rattle.fields.specs.declared.positions.GameKind.TheVariants.{Table}
use Rattle.fields.specs.Fields.{spelling}
use Rattle.fields.specs.Positions.{game_of, game_word}
use Rattle.fields.specs.Asks.{ask_fields, ask_with}
use Rattle.sim_game.specs.declared.Limits.{Limits}
use Rattle.fields.specs.declared.field.Field.TheVariants as fields
use Rattle.position.specs.declared.reading.TheConstants.{MOST_BYTES, MOST_TABLE_BYTES}
use Rattle.position.specs.declared.games.InputError.{InputError}
use Rattle.position.specs.declared.games.InputError.TheVariants as errors
use Rattle.position.specs.Objects.{◌>>=◌, or_refuse, text_at, json_of, known_at, all_asked_at, holds_word, limits_at}
use Rattle.position.specs.Games.{position_text_in, fault_of, text_width, weight_fault}
pub use Rattle.position.specs.Objects.{Fails, Gives}

unfoldable pub game_at : Data → Result GameKind InputError
game_at d = do
  name ← text_at fields.Game d
  or_refuse (game_of name) errors.GameName

unfoldable pub ask_at : Limits → Data → Result Ask InputError
ask_at limits d = do
  vs ← all_asked_at (ask_fields limits) d
  Ok (ask_with vs)

-- a position that breaks no rule of its game
abbrev pub refuse_if : Option InputError → Result (Unit {0}) InputError
refuse_if None = Ok tt
refuse_if (Some e) = Err e

-- the object that bytes are, however many
unfoldable pub any_object_at : List ℕ → Result Data InputError
any_object_at bytes = do
  d ← json_of bytes
  if is_some (as_object d) then Ok d else Err errors.NotObject

-- a table with linear stages may be told in many bytes
unfoldable pub may_be_long : Data → Bool
may_be_long d = holds_word fields.Game (game_word Table) d && holds_word fields.Stages (spelling Linear) d

abbrev pub if_long : Result Data InputError → Result Data InputError
if_long (Ok d) = if may_be_long d then Ok d else Err errors.TooLong
if_long (Err e) = Err errors.TooLong

unfoldable pub object_at : List ℕ → Result Data InputError
object_at bytes =
    if nat_lt MOST_TABLE_BYTES (length bytes) then Err errors.TooLong
    else (if nat_lt MOST_BYTES (length bytes) then if_long (any_object_at bytes) else any_object_at bytes)

-- a position and what is asked
pub record TaskText : Type 0 where
  pub text : PositionText
  pub ask : Ask

-- the position breaks no rule of its game within the limits, and the weight is large enough for it
abbrev pub are_kept : Limits → PositionText → Ask → Result (Unit {0}) InputError
are_kept limits text ask = do
  _ ← refuse_if (fault_of limits text)
  refuse_if (weight_fault limits (text_width text) ask.weight)

-- what an object gives, within its limits
unfoldable pub task_within : Limits → Data → Result TaskText InputError
task_within limits d = do
  game ← game_at d
  _ ← known_at game d
  text ← position_text_in limits game d
  ask ← ask_at limits d
  _ ← are_kept limits text ask
  Ok (record { text = text; ask = ask })

abbrev pub task_of : Data → Result TaskText InputError
task_of d = task_within (limits_at d) d

unfoldable pub position_of : List ℕ → Result TaskText InputError
position_of bytes = do
  d ← object_at bytes
  task_of d
