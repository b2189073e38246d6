-- What many bytes are refused for.
use Rattle.std.proofs.Common.{◌≡◌, ◌≢◌, Result, Err, refl}
use Rattle.serde_json.specs.Data.{Data}
use Rattle.position.specs.declared.games.InputError.{InputError}
use Rattle.position.specs.declared.games.InputError.TheVariants.{NoMemory, TooLong}
use Rattle.position.specs.Objects.{Fails}
use Rattle.position.specs.Position.{if_long}

pub long_fault : (e : InputError) (read : Result Data InputError) → e ≢ NoMemory → Fails e read → if_long read ≡ Err TooLong
long_fault NoMemory read other fails = absurd (other refl)
long_fault e read other fails = rw fails refl
