-- What stands in a JSON object, or the refusal.
use Rattle.std.specs.Prelude.{◌≡◌, ℕ, ℤ, pos, negsuc, Bool, true, false, ◌&&◌, ◌||◌, List, [], ◌∷◌, length, nat_lt, int_lt, nat_le, if◌then◌else◌, bytes_eq, is_some, Option, Some, None, option_and_then, Result, Ok, Err}
use Rattle.std.specs.List.{list_any, list_all, filter_map}
use Rattle.std.specs.Str.{is_utf8}
use Rattle.serde_json.specs.Data.{Data, Members, no_members, member, Items}
use Rattle.serde_json.specs.Find.{get, as_str, as_array, as_object}
use Rattle.serde_json.specs.Read.{read}
use Rattle.fields.specs.declared.field.Field.{Field}
use Rattle.fields.specs.declared.field.Field.TheVariants as fields
use Rattle.fields.specs.declared.field.FieldKind.{FieldKind}
use Rattle.fields.specs.declared.field.FieldKind.TheVariants as holds
use Rattle.fields.specs.declared.field.Absent.{Absent}
use Rattle.fields.specs.declared.field.Absent.TheVariants.{Refused, Number, Word}
use Rattle.fields.specs.declared.field.Value.{Value}
use Rattle.fields.specs.declared.field.Value.TheVariants as values
use Rattle.fields.specs.declared.field.Word.TheVariants as words
use Rattle.sim_game.specs.declared.Limits.{Limits}
use Rattle.sim_game.specs.declared.Limits.TheVariants.{Narrow, Wide}
use Rattle.fields.specs.declared.positions.GameKind.{GameKind}
use Rattle.fields.specs.declared.ask.TheConstants.{ASK}
use Rattle.fields.specs.Fields.{name_of, spelling, word_in, FieldRow, AskRow, Fits}
use Rattle.fields.specs.Positions.{fields_of}
use Rattle.table_text.specs.Elements.{list_of, whole_in, is_whole}
use Rattle.position.specs.declared.games.InputError.{InputError}
use Rattle.position.specs.declared.games.InputError.TheVariants as errors

infixl 10 ◌>>=◌
abbrev pub ◌>>=◌ : {A B : Type 0} → Result A InputError → (A → Result B InputError) → Result B InputError
(Ok x) >>= f = f x
(Err e) >>= f = Err e

-- What a function returned, seen by view, is what reading gives, unless memory ran out.
abbrev pub Fails : {Y : Type 0} → InputError → Result Y InputError → Type 0
Fails errors.NoMemory read = Unit {0}
Fails e read = read ≡ Err e

abbrev pub Gives : {X Y : Type 0} → (X → Y) → Result X InputError → Result Y InputError → Type 0
Gives view (Ok x) read = read ≡ Ok (view x)
Gives view (Err e) read = Fails e read

-- the value there is, or the refusal
abbrev pub or_refuse : {A : Type 0} → Option A → InputError → Result A InputError
or_refuse None e = Err e
or_refuse (Some x) e = Ok x

-- ---- one field

unfoldable pub member_at : Field → Data → Result Data InputError
member_at field d = or_refuse (get (name_of field) d) (errors.Missing field)

unfoldable pub whole_at : Field → Data → Result ℤ InputError
whole_at field d = do
  v ← member_at field d
  or_refuse (whole_in v) (errors.Kind field)

-- a whole number from low to high
unfoldable pub between : Field → ℤ → ℤ → Data → Result ℤ InputError
between field low high d = do
  z ← whole_at field d
  if int_lt z low || int_lt high z then Err (errors.Range field) else Ok z

unfoldable pub text_at : Field → Data → Result (List ℕ) InputError
text_at field d = do
  v ← member_at field d
  or_refuse (as_str v) (errors.Kind field)

-- the text is there, and is this word
abbrev pub is_word : List ℕ → Option (List ℕ) → Bool
is_word word None = false
is_word word (Some text) = bytes_eq text word

-- the field is there, and is this word
unfoldable pub holds_word : Field → List ℕ → Data → Bool
holds_word field word d = is_word word (option_and_then as_str (get (name_of field) d))

-- the limits of a position: wide where its stages are linear
unfoldable pub limits_at : Data → Limits
limits_at d = if holds_word fields.Stages (spelling words.Linear) d then Wide else Narrow

-- ---- lists

abbrev pub byte_of : ℤ → Option ℕ
byte_of (pos n) = if nat_lt n 256 then Some n else None
byte_of (negsuc n) = None

-- a whole number from 0 to 255
abbrev pub byte_in : Data → Option ℕ
byte_in d = option_and_then byte_of (whole_in d)

abbrev pub is_byte : Data → Bool
is_byte d = is_some (byte_in d)

-- at most so many whole numbers from 0 to 255
unfoldable pub bytes_in : Field → ℕ → List Data → Result (List ℕ) InputError
bytes_in field most ds =
    if list_all is_whole ds
    then (if nat_le (length ds) most && list_all is_byte ds then Ok (filter_map byte_in ds) else Err (errors.Range field))
    else Err (errors.Kind field)

unfoldable pub items_at : Field → Data → Result Items InputError
items_at field d = do
  v ← member_at field d
  or_refuse (as_array v) (errors.Kind field)

unfoldable pub bytes_at : Field → ℕ → Data → Result (List ℕ) InputError
bytes_at field most d = do
  items ← items_at field d
  bytes_in field most (list_of items)

-- ---- the object

unfoldable pub json_of : List ℕ → Result Data InputError
json_of bytes = or_refuse (if is_utf8 bytes then read bytes else None) errors.NotJson

-- the names in an object
abbrev pub names_of : Members → List (List ℕ)
names_of no_members = []
names_of (member name d ms) = name ∷ names_of ms

-- the name is that of a field of the game, or of what is asked
abbrev pub is_known : GameKind → List ℕ → Bool
is_known game name =
    bytes_eq (name_of fields.Game) name
    || (list_any (λ (row : FieldRow). bytes_eq (name_of row.0) name) (fields_of Wide game) || list_any (λ (row : AskRow). bytes_eq (name_of row.0) name) ASK)

unfoldable pub members_at : Data → Result Members InputError
members_at d = or_refuse (as_object d) errors.NotObject

-- every name in the object is known
unfoldable pub known_at : GameKind → Data → Result (Unit {0}) InputError
known_at game d = do
  members ← members_at d
  if list_all (is_known game) (names_of members) then Ok tt else Err errors.Unknown

-- ---- the values of fields

unfoldable pub value_at : Field → FieldKind → Data → Result Value InputError
value_at field (holds.Number low high) d = do
  z ← between field low high d
  Ok (values.Number z)
value_at field (holds.List most) d = do
  ns ← bytes_at field most d
  Ok (values.List ns)
-- reports alone have such lists
value_at field (holds.Numbers low high most) d = Err (errors.Kind field)
value_at field (holds.Optional low high most) d = Err (errors.Kind field)
value_at field (holds.Word choices) d = do
  text ← text_at field d
  w ← or_refuse (word_in choices text) (errors.Range field)
  Ok (values.Word w)

-- the values of the fields of a game
unfoldable pub values_at : List FieldRow → Data → Result (List Value) InputError
values_at [] d = Ok []
values_at (row ∷ rows) d = do
  v ← value_at row.0 row.1 d
  vs ← values_at rows d
  Ok (v ∷ vs)

-- what an absent field means, if it may be absent
abbrev pub default_of : Absent → Option Value
default_of Refused = None
default_of (Number z) = Some (values.Number z)
default_of (Word w) = Some (values.Word w)

abbrev pub IsDefaultOf : FieldKind → Absent → Type 0
IsDefaultOf kind Refused = Unit {0}
IsDefaultOf kind (Number z) = Fits kind (values.Number z)
IsDefaultOf kind (Word w) = Fits kind (values.Word w)

abbrev pub or_default : Option Value → Bool → Result Value InputError → Result Value InputError
or_default (Some v) false read = Ok v
or_default (Some v) true read = read
or_default None given read = read

unfoldable pub asked_at : AskRow → Data → Result Value InputError
asked_at row d = or_default (default_of row.2) (is_some (get (name_of row.0) d)) (value_at row.0 row.1 d)

-- the values of the fields of what is asked
unfoldable pub all_asked_at : List AskRow → Data → Result (List Value) InputError
all_asked_at [] d = Ok []
all_asked_at (row ∷ rows) d = do
  v ← asked_at row d
  vs ← all_asked_at rows d
  Ok (v ∷ vs)
