-- The games, one by one: their words, their fields, and positions as values of these fields.
use Rattle.std.specs.Prelude.{ℕ, ℤ, pos, unsigned_abs, int_le, Bool, true, false, ◌&&◌, ◌==◌, nat_le, List, [], ◌∷◌, length, map, get_or, codes, bytes_eq, find, Option}
use Rattle.std.specs.List.{list_all}
use Rattle.goofspiel.specs.declared.Pay.{Pay}
use Rattle.goofspiel.specs.declared.Pay.TheVariants.{Margin, Win, Prizes}
use Rattle.fields.specs.declared.field.FieldKind.{FieldKind}
use Rattle.fields.specs.declared.field.FieldKind.TheVariants as holds
use Rattle.fields.specs.declared.field.Value.{Value}
use Rattle.fields.specs.declared.field.Value.TheVariants as values_are
use Rattle.fields.specs.declared.field.Word.{Word}
use Rattle.fields.specs.declared.field.Word.TheVariants as words
use Rattle.fields.specs.declared.positions.TheConstants.{GAMES, GOOFSPIEL, NARROW_GOOFSPIEL, OSHI_ZUMO, TRON, PURSUIT, TABLE, NARROW_TABLE, NARROW_COINS, NARROW_MOVES, NARROW_TURNS}
use Rattle.sim_game.specs.declared.Limits.{Limits}
use Rattle.sim_game.specs.declared.Limits.TheVariants.{Narrow, Wide}
use Rattle.fields.specs.declared.positions.PositionText.{PositionText}
use Rattle.fields.specs.declared.positions.PositionText.TheVariants as texts
use Rattle.fields.specs.declared.positions.Shown.{Shown}
use Rattle.fields.specs.declared.positions.Shown.TheVariants as shown
use Rattle.fields.specs.declared.positions.GameKind.{GameKind}
use Rattle.fields.specs.declared.positions.GameKind.TheVariants.{Goofspiel, OshiZumo, Tron, GoofspielDrawn, Pursuit, Table}
use Rattle.fields.specs.Fields.{FieldRow, AllFit}

-- ---- the games
-- a game's word, the first version of reports that has it, and its fields within narrow and wide limits
pub record GameRow : Type 0 where
  pub word : List ℕ
  pub version : ℕ
  pub narrow : List FieldRow
  pub wide : List FieldRow

abbrev pub game_row : GameKind → GameRow
game_row Goofspiel = record { word = codes "goofspiel"; version = 1; narrow = NARROW_GOOFSPIEL; wide = GOOFSPIEL }
game_row OshiZumo = record { word = codes "oshi_zumo"; version = 1; narrow = OSHI_ZUMO; wide = OSHI_ZUMO }
game_row Tron = record { word = codes "tron"; version = 1; narrow = TRON; wide = TRON }
game_row GoofspielDrawn = record { word = codes "goofspiel_drawn"; version = 2; narrow = NARROW_GOOFSPIEL; wide = GOOFSPIEL }
game_row Pursuit = record { word = codes "pursuit"; version = 2; narrow = PURSUIT; wide = PURSUIT }
game_row Table = record { word = codes "table"; version = 2; narrow = NARROW_TABLE; wide = TABLE }

abbrev pub game_word : GameKind → List ℕ
game_word game = (game_row game).word

abbrev pub game_version : GameKind → ℕ
game_version game = (game_row game).version

-- the game whose word it is
unfoldable pub game_of : List ℕ → Option GameKind
game_of word = find (λ k. bytes_eq word (game_word k)) GAMES

-- the fields of the game within the limits, in the order of refusals
abbrev pub fields_of : Limits → GameKind → List FieldRow
fields_of Narrow game = (game_row game).narrow
fields_of Wide game = (game_row game).wide

abbrev pub kinds_in : List FieldRow → List FieldKind
kinds_in rows = map (λ (row : FieldRow). row.1) rows

abbrev pub kinds_of : Limits → GameKind → List FieldKind
kinds_of limits game = kinds_in (fields_of limits game)

-- ---- positions as values of their fields
abbrev pub pay_named : Word → Pay
pay_named words.Win = Win
pay_named words.Prizes = Prizes
pay_named word = Margin

abbrev pub pay_word : Pay → Word
pay_word Margin = words.Margin
pay_word Win = words.Win
pay_word Prizes = words.Prizes

abbrev whole : ℕ → Value
whole n = values_are.Number (pos n)

-- the game of a position, and the values of its fields
abbrev pub game_and_values : PositionText → GameKind × List Value
game_and_values (texts.Goofspiel one two prizes score pay) =
    (Goofspiel, values_are.List one ∷ values_are.List two ∷ values_are.List prizes ∷ values_are.Number score ∷ values_are.Word (pay_word pay) ∷ [])
game_and_values (texts.OshiZumo size one two least place) = (OshiZumo, whole size ∷ whole one ∷ whole two ∷ whole least ∷ values_are.Number place ∷ [])
game_and_values (texts.Tron height width walls one two) = (Tron, whole height ∷ whole width ∷ values_are.List walls ∷ whole one ∷ whole two ∷ [])
game_and_values (texts.GoofspielDrawn one two prizes score pay) =
    (GoofspielDrawn, values_are.List one ∷ values_are.List two ∷ values_are.List prizes ∷ values_are.Number score ∷ values_are.Word (pay_word pay) ∷ [])
game_and_values (texts.Pursuit nodes edges one two rounds) = (Pursuit, whole nodes ∷ values_are.List edges ∷ whole one ∷ whole two ∷ whole rounds ∷ [])
game_and_values (texts.Table ranks moves values cells draws rewards) =
    (Table, values_are.Numbers ranks ∷ values_are.Numbers moves ∷ values_are.Numbers values ∷ values_are.Numbers cells ∷ values_are.Numbers draws ∷ values_are.Optional rewards ∷ [])

abbrev pub kind_of : PositionText → GameKind
kind_of text = (game_and_values text).0

abbrev pub values_of : PositionText → List Value
values_of text = (game_and_values text).1

abbrev pub number_in_value : Value → ℤ
number_in_value (values_are.Number z) = z
number_in_value v = pos 0

abbrev pub list_in_value : Value → List ℕ
list_in_value (values_are.List ns) = ns
list_in_value v = []

abbrev pub numbers_in_value : Value → List ℤ
numbers_in_value (values_are.Numbers zs) = zs
numbers_in_value v = []

abbrev pub HoldsNumbers : Value → Type 0
HoldsNumbers (values_are.Numbers zs) = Unit {0}
HoldsNumbers v = ⊥

abbrev pub optional_in_value : Value → List ℤ
optional_in_value (values_are.Optional zs) = zs
optional_in_value v = []

abbrev pub HoldsOptional : Value → Type 0
HoldsOptional (values_are.Optional zs) = Unit {0}
HoldsOptional v = ⊥

abbrev pub word_in_value : Value → Word
word_in_value (values_are.Word w) = w
word_in_value v = words.Margin

-- the value at a place, from 0
abbrev pub number_at : ℕ → List Value → ℤ
number_at i vs = number_in_value (get_or vs i (whole 0))

abbrev pub count_at : ℕ → List Value → ℕ
count_at i vs = unsigned_abs (number_at i vs)

abbrev pub list_at : ℕ → List Value → List ℕ
list_at i vs = list_in_value (get_or vs i (whole 0))

abbrev pub numbers_at : ℕ → List Value → List ℤ
numbers_at i vs = numbers_in_value (get_or vs i (whole 0))

abbrev pub optional_at : ℕ → List Value → List ℤ
optional_at i vs = optional_in_value (get_or vs i (whole 0))

abbrev pub word_value_at : ℕ → List Value → Word
word_value_at i vs = word_in_value (get_or vs i (whole 0))

-- the position of the game with these values
abbrev pub position_with : GameKind → List Value → PositionText
position_with Goofspiel vs = texts.Goofspiel (list_at 0 vs) (list_at 1 vs) (list_at 2 vs) (number_at 3 vs) (pay_named (word_value_at 4 vs))
position_with OshiZumo vs = texts.OshiZumo (count_at 0 vs) (count_at 1 vs) (count_at 2 vs) (count_at 3 vs) (number_at 4 vs)
position_with Tron vs = texts.Tron (count_at 0 vs) (count_at 1 vs) (list_at 2 vs) (count_at 3 vs) (count_at 4 vs)
position_with GoofspielDrawn vs = texts.GoofspielDrawn (list_at 0 vs) (list_at 1 vs) (list_at 2 vs) (number_at 3 vs) (pay_named (word_value_at 4 vs))
position_with Pursuit vs = texts.Pursuit (count_at 0 vs) (list_at 1 vs) (count_at 2 vs) (count_at 3 vs) (count_at 4 vs)
position_with Table vs = texts.Table (numbers_at 0 vs) (numbers_at 1 vs) (numbers_at 2 vs) (numbers_at 3 vs) (numbers_at 4 vs) (optional_at 5 vs)

-- each value of the position fits its field
abbrev pub IsPositionInRange : PositionText → Type 0
IsPositionInRange text = AllFit (kinds_of Wide (kind_of text)) (values_of text)

-- ---- the narrow limits
abbrev pub is_between : ℤ → ℤ → ℤ → Bool
is_between low high z = int_le low z && int_le z high

-- the numbers fit the field
abbrev pub numbers_fit : FieldKind → List ℤ → Bool
numbers_fit (holds.Numbers low high most) zs = nat_le (length zs) most && list_all (is_between low high) zs
numbers_fit kind zs = false

abbrev pub is_paid_at_end : Pay → Bool
is_paid_at_end Prizes = false
is_paid_at_end pay = true

abbrev narrow_kind : ℕ → FieldKind
narrow_kind i = get_or (kinds_in NARROW_TABLE) i (holds.List 0)

-- The position fits the narrow fields of its game: no prize is paid when it is won, no turn of a table pays, and no list
-- of a table is longer, or has a number beyond, what these fields allow.
abbrev pub fits_narrow : PositionText → Bool
fits_narrow (texts.Goofspiel one two prizes score pay) = is_paid_at_end pay
fits_narrow (texts.GoofspielDrawn one two prizes score pay) = is_paid_at_end pay
fits_narrow (texts.Table ranks moves values cells draws rewards) =
    length rewards == 0
    && (numbers_fit (narrow_kind 0) ranks && (numbers_fit (narrow_kind 1) moves && (numbers_fit (narrow_kind 2) values
    && (numbers_fit (narrow_kind 3) cells && numbers_fit (narrow_kind 4) draws))))
fits_narrow text = true

-- a number of turns or of moves that the narrow rules allow
abbrev pub are_narrow_turns : ℤ → Bool
are_narrow_turns turns = int_le turns (pos NARROW_TURNS)

abbrev pub are_narrow_moves : ℤ → Bool
are_narrow_moves moves = int_le moves (pos NARROW_MOVES)

-- No number is one that the wide rules of the game allow and the narrow ones refuse. Goofspiel and Tron have no such rule.
abbrev pub is_small : PositionText → Bool
is_small (texts.OshiZumo size one two least place) =
    nat_le one NARROW_COINS && (nat_le two NARROW_COINS && nat_le least NARROW_COINS)
is_small (texts.Pursuit nodes edges one two rounds) = nat_le nodes NARROW_MOVES && nat_le rounds NARROW_TURNS
is_small (texts.Table ranks moves values cells draws rewards) = list_all are_narrow_turns ranks && list_all are_narrow_moves moves
is_small text = true

-- the position is within the narrow limits
abbrev pub is_narrow : PositionText → Bool
is_narrow text = fits_narrow text && is_small text

-- a value that is shown by reference
abbrev pub shown_value : Shown → Value
shown_value (shown.Number z) = values_are.Number z
shown_value (shown.List ns) = values_are.List ns.now
shown_value (shown.Numbers zs) = values_are.Numbers zs.now
shown_value (shown.Optional zs) = values_are.Optional zs.now
shown_value (shown.Word w) = values_are.Word w
