-- What is asked, as values of its fields.
use Rattle.std.specs.Prelude.{ℕ, ℤ, List, map}
use Rattle.fields.specs.declared.field.FieldKind.{FieldKind}
use Rattle.fields.specs.declared.field.Value.{Value}
use Rattle.fields.specs.declared.field.Word.{Word}
use Rattle.fields.specs.declared.field.Word.TheVariants as words
use Rattle.fields.specs.declared.ask.Ask.{Ask}
use Rattle.fields.specs.declared.ask.StageMethod.{StageMethod}
use Rattle.fields.specs.declared.ask.StageMethod.TheVariants.{Regret, Linear}
use Rattle.fields.specs.declared.ask.SearchMethod.{SearchMethod}
use Rattle.fields.specs.declared.ask.SearchMethod.TheVariants.{Oracle, Induction}
use Rattle.fields.specs.declared.ask.TheConstants.{ASK, NARROW_ASK}
use Rattle.sim_game.specs.declared.Limits.{Limits}
use Rattle.sim_game.specs.declared.Limits.TheVariants.{Narrow, Wide}
use Rattle.fields.specs.Fields.{AskRow}
use Rattle.fields.specs.Positions.{number_at, count_at, word_value_at}

-- the fields of what is asked within the limits, in the order of refusals
abbrev pub ask_fields : Limits → List AskRow
ask_fields Narrow = NARROW_ASK
ask_fields Wide = ASK

abbrev pub asked_kinds : Limits → List FieldKind
asked_kinds limits = map (λ (row : AskRow). row.1) (ask_fields limits)

abbrev pub method_of : Word → StageMethod
method_of words.Linear = Linear
method_of word = Regret

-- the limits of the positions whose stages are solved so
abbrev pub limits_with : StageMethod → Limits
limits_with Regret = Narrow
limits_with Linear = Wide

abbrev pub search_of : Word → SearchMethod
search_of words.Induction = Induction
search_of word = Oracle

-- what the values of the fields ask
abbrev pub ask_with : List Value → Ask
ask_with vs = record {
  gap = number_at 0 vs;
  weight = count_at 1 vs;
  turns = count_at 2 vs;
  visits = count_at 3 vs;
  rows = count_at 4 vs;
  workers = count_at 5 vs;
  stages = method_of (word_value_at 6 vs);
  search = search_of (word_value_at 7 vs);
}

-- what these numbers ask, where each other field has its default
abbrev pub ask_of : ℤ → ℕ → ℕ → ℕ → ℕ → ℕ → Ask
ask_of gap weight turns visits rows workers = record {
  gap = gap;
  weight = weight;
  turns = turns;
  visits = visits;
  rows = rows;
  workers = workers;
  stages = Regret;
  search = Oracle;
}
