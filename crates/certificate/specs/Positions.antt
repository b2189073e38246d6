-- The line of a position, which is read and written by the fields of its game, whatever the game.
use Rattle.std.specs.Prelude.{ℕ, ◌==◌, Bool, true, false, ◌&&◌, if◌then◌else◌, List, [], ◌∷◌, length, drop, flat_map, Option, None, Some, option_and_then, Ok, Err}
use Rattle.certificate.specs.declared.error.TextError.TheVariants as errors
use Rattle.fields.specs.declared.field.FieldKind.{FieldKind}
use Rattle.fields.specs.declared.field.FieldKind.TheVariants as holds
use Rattle.fields.specs.declared.field.Value.{Value}
use Rattle.fields.specs.declared.field.Value.TheVariants as values_are
use Rattle.fields.specs.declared.positions.PositionText.{PositionText}
use Rattle.fields.specs.declared.positions.GameKind.{GameKind}
use Rattle.fields.specs.Positions.{game_word, kinds_of, kind_of, values_of, position_with, game_of}
use Rattle.certificate.specs.Spellings.{value_text, value_fields, value_in, has_form}
use Rattle.certificate.specs.Versions.{limits_of, has_game}
use Rattle.certificate.specs.Readers.{◌>>=◌, Reads, spelled}

-- ---- the line
abbrev pub position_numbers : PositionText → List (List ℕ)
position_numbers text = flat_map value_fields (values_of text)

-- the value with a space before it, if it has a field
abbrev pub value_line : Value → List ℕ
value_line (values_are.Optional []) = []
value_line v = 32 ∷ value_text v

abbrev pub position_fields : PositionText → List (List ℕ)
position_fields text = game_word (kind_of text) ∷ position_numbers text

-- the game whose word it is, in a report of a version
unfoldable pub game_in : ℕ → List ℕ → Option GameKind
game_in version word = option_and_then (λ k. if has_game version k then Some k else None) (game_of word)

unfoldable pub game : ℕ → Reads GameKind
game version = spelled errors.Line (game_in version)

abbrev pub first_has_form : FieldKind → List (List ℕ) → Bool
first_has_form kind [] = true
first_has_form kind (f ∷ fs) = has_form kind f

-- each field has the form of its kind, and there is none behind them
unfoldable pub have_form : List FieldKind → List (List ℕ) → Bool
have_form [] fs = length fs == 0
have_form (k ∷ ks) fs = first_has_form k fs && have_form ks (drop 1 fs)

-- an optional field is left out
abbrev pub is_left_out : FieldKind → List (List ℕ) → Bool
is_left_out (holds.Optional low high most) fs = length fs == 0
is_left_out kind fs = false

unfoldable pub value : FieldKind → Reads Value
value kind u = if is_left_out kind u.parts then Ok (values_are.Optional [], u) else spelled errors.Number (value_in kind) u

unfoldable pub values : List FieldKind → Reads (List Value)
values [] u = Ok ([], u)
values (k ∷ ks) u = do
  v ← value k u
  vs ← values ks v.1
  Ok (v.0 ∷ vs.0, vs.1)

-- a fault of the form is told before one of a number
unfoldable pub line_values : List FieldKind → Reads (List Value)
line_values kinds u = if have_form kinds u.parts then values kinds u else Err (errors.Line u.number)

-- the position, in a report of the version
unfoldable pub position : ℕ → Reads PositionText
position version u = do
  game ← game version u
  vs ← line_values (kinds_of (limits_of version) game.0) game.1
  Ok (position_with game.0 vs.0, vs.1)
