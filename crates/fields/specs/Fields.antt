-- The fields of positions and of what is asked: their names, and what each holds.
use Rattle.std.specs.Prelude.{◌≡◌, ℕ, List, [], ◌∷◌, codes, bytes_eq, find, Option, Some}
use Rattle.fields.specs.declared.field.Field.{Field}
use Rattle.fields.specs.declared.field.Field.TheVariants as fields
use Rattle.fields.specs.declared.field.Word.{Word}
use Rattle.fields.specs.declared.field.Word.TheVariants.{Margin, Win, Prizes, Regret, Linear, Oracle, Induction}
use Rattle.fields.specs.declared.field.Choices.{Choices}
use Rattle.fields.specs.declared.field.Choices.TheVariants.{Pay, PayAtEnd, Stages, Search}
use Rattle.fields.specs.declared.field.FieldKind.{FieldKind}
use Rattle.fields.specs.declared.field.FieldKind.TheVariants as holds
use Rattle.fields.specs.declared.field.Value.{Value}
use Rattle.fields.specs.declared.field.Value.TheVariants as values
use Rattle.fields.specs.declared.field.Absent.{Absent}
use Rattle.fields.specs.Numbers.{Between, IsByteList, IsNumberList}

abbrev pub name_of : Field → List ℕ
name_of fields.Game = codes "game"
name_of fields.One = codes "one"
name_of fields.Two = codes "two"
name_of fields.Prizes = codes "prizes"
name_of fields.Score = codes "score"
name_of fields.Pay = codes "pay"
name_of fields.Size = codes "size"
name_of fields.Least = codes "least"
name_of fields.Place = codes "place"
name_of fields.Height = codes "height"
name_of fields.Width = codes "width"
name_of fields.Walls = codes "walls"
name_of fields.Nodes = codes "nodes"
name_of fields.Edges = codes "edges"
name_of fields.Rounds = codes "rounds"
name_of fields.States = codes "states"
name_of fields.Gap = codes "gap"
name_of fields.Weight = codes "weight"
name_of fields.Turns = codes "turns"
name_of fields.Visits = codes "visits"
name_of fields.Rows = codes "rows"
name_of fields.Workers = codes "workers"
name_of fields.Stages = codes "stages"
name_of fields.Search = codes "search"

-- ---- words
abbrev pub spelling : Word → List ℕ
spelling Margin = codes "margin"
spelling Win = codes "win"
spelling Prizes = codes "prizes"
spelling Regret = codes "regret"
spelling Linear = codes "linear"
spelling Oracle = codes "oracle"
spelling Induction = codes "induction"

abbrev pub choices_of : Choices → List Word
choices_of Pay = Margin ∷ Win ∷ Prizes ∷ []
choices_of PayAtEnd = Margin ∷ Win ∷ []
choices_of Stages = Regret ∷ Linear ∷ []
choices_of Search = Oracle ∷ Induction ∷ []

-- the word of these that is spelled so
abbrev pub word_in : Choices → List ℕ → Option Word
word_in choices text = find (λ w. bytes_eq text (spelling w)) (choices_of choices)

-- ---- what a field holds

-- a field of a game, and one of what is asked
abbrev pub FieldRow : Type 0
FieldRow = Field × FieldKind

abbrev pub AskRow : Type 0
AskRow = Field × FieldKind × Absent

-- a word fits where it is one of the words
abbrev pub Fits : FieldKind → Value → Type 0
Fits (holds.Number low high) (values.Number z) = Between low high z
Fits (holds.List most) (values.List ns) = IsByteList most ns
Fits (holds.Numbers low high most) (values.Numbers zs) = IsNumberList low high most zs
Fits (holds.Optional low high most) (values.Optional zs) = IsNumberList low high most zs
Fits (holds.Word choices) (values.Word w) = word_in choices (spelling w) ≡ Some w
Fits kind v = ⊥

-- one value for each kind, which it fits
abbrev pub AllFit : List FieldKind → List Value → Type 0
AllFit [] [] = Unit {0}
AllFit [] (v ∷ vs) = ⊥
AllFit (k ∷ ks) [] = ⊥
AllFit (k ∷ ks) (v ∷ vs) = Fits k v × AllFit ks vs
