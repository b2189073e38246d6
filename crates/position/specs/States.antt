-- The position that the states of a table make, or the refusal of the field that tells them.
use Rattle.std.specs.Prelude.{Result, Ok, Err}
use Rattle.serde_json.specs.Data.{Data}
use Rattle.sim_game.specs.declared.Limits.{Limits}
use Rattle.fields.specs.declared.field.Field.TheVariants as fields
use Rattle.fields.specs.declared.positions.PositionText.{PositionText}
use Rattle.table_text.specs.declared.fault.StatesFault.{StatesFault}
use Rattle.table_text.specs.declared.fault.StatesFault.TheVariants as faults
use Rattle.table_text.specs.States.{table_text_in}
use Rattle.position.specs.declared.games.InputError.{InputError}
use Rattle.position.specs.declared.games.InputError.TheVariants as errors
use Rattle.position.specs.Objects.{◌>>=◌, member_at}

abbrev pub refusal_of : StatesFault → InputError
refusal_of faults.Kind = errors.Kind fields.States
refusal_of faults.Range = errors.Range fields.States
refusal_of faults.NoMemory = errors.NoMemory

abbrev pub refused : {A : Type 0} → Result A StatesFault → Result A InputError
refused (Ok x) = Ok x
refused (Err fault) = Err (refusal_of fault)

-- within the limits
unfoldable pub states_at : Limits → Data → Result PositionText InputError
states_at limits d = do
  v ← member_at fields.States d
  refused (table_text_in limits v)
