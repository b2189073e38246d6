-- Runs, by what was taken, answered and written.
use Rattle.std.proofs.Common.{◌≡◌, ℕ, ◌+◌, Bool, List, length, Option, Result, Ok, Err, IfOk, nat_lt, true, refl}
use Rattle.std.proofs.lemmas.Result.{IfOk-weaker}
use Rattle.sim_game.specs.declared.NoMemory.{NoMemory}
use Rattle.position.specs.declared.reading.TheConstants.{MOST_TABLE_BYTES}
use Rattle.position.specs.declared.games.InputError.{InputError}
use Rattle.position.specs.declared.games.InputError.TheVariants as errors
use Rattle.position.specs.Position.{Fails, position_of, object_at}
use Rattle.devices.specs.Taken.{SourceState, SinkState}
use Rattle.commands.specs.declared.run.Answer.{Answer}
use Rattle.commands.specs.declared.words.Command.{Command}
use Rattle.commands.specs.Runs.{IsAnswer, IsTaken, IsTakenInPart, IsRun, IsWritten}

-- an answer that was written, whole or in part or not at all, makes a run
pub run_of : (may_stop : Bool) (command : Option Command) (source source' : SourceState) (sink sink' : SinkState) (bytes : List ℕ) (answer : Result Answer NoMemory) (status : ℕ)
    → IsTaken command source source' bytes → IsTakenInPart command source source'
    → ((a : Answer) → answer ≡ Ok a → IsAnswer may_stop command bytes a.status a.text) → IsWritten answer sink sink' status
    → IsRun may_stop command source source' sink sink' status
run_of may_stop command source source' sink sink' bytes answer status taken part is (IsWritten.whole a e all) = IsRun.answered bytes a.text a.status taken (is a e) all
run_of may_stop command source source' sink sink' bytes answer status taken part is (IsWritten.part a e front rose) = IsRun.cut_off bytes a.text a.status taken (is a e) front rose
run_of may_stop command source source' sink sink' bytes answer status taken part is (IsWritten.nothing e is_err same) = IsRun.no_memory part same

-- ---- answers of one status and one text
pub answers : (P : ℕ → List ℕ → Type 0) (status : ℕ) (text : List ℕ) (result : Result Answer NoMemory) → P status text
    → IfOk result (λ a. (a.status ≡ status) × (a.text ≡ text)) → IfOk result (λ a. P a.status a.text)
answers P status text result is said = IfOk-weaker result _ (λ a. P a.status a.text) (λ a s. rw (s.0, s.1) is) said

-- where an answer shows a fact
pub answers_where : (P : ℕ → List ℕ → Type 0) (Q : Type 0) (status : ℕ) (text : List ℕ) (result : Result Answer NoMemory) → (Q → P status text)
    → IfOk result (λ a. (a.status ≡ status) × (a.text ≡ text) × Q) → IfOk result (λ a. P a.status a.text)
answers_where P Q status text result is said = IfOk-weaker result _ (λ a. P a.status a.text) (λ a s. rw (s.0, s.1) (is s.2)) said

-- the refusal of bytes that are too many
pub long_as : (P : Bool → List ℕ → ℕ → List ℕ → Type 0) (Q : Type 0) (limit : List ℕ → ℕ) (status : ℕ) (text : List ℕ) (result : Result Answer NoMemory)
    → ((may_stop : Bool) (bytes : List ℕ) → length bytes ≡ limit bytes + 1 → P may_stop bytes status text)
    → IfOk result (λ a. (a.status ≡ status) × (a.text ≡ text) × Q) → IfOk result (λ a. (may_stop : Bool) (bytes : List ℕ) → length bytes ≡ limit bytes + 1 → P may_stop bytes a.status a.text)
long_as P Q limit status text result is said =
    IfOk-weaker result _ (λ a. (may_stop : Bool) (bytes : List ℕ) → length bytes ≡ limit bytes + 1 → P may_stop bytes a.status a.text)
    (λ a s may_stop bytes long. rw (s.0, s.1) (is may_stop bytes long)) said

-- ---- refusals of positions
pub fails_unless : (bytes : List ℕ) (e : InputError) → Fails e (position_of bytes) → ¬ (e ≡ errors.NoMemory) → position_of bytes ≡ Err e
fails_unless bytes errors.NoMemory is not = absurd (not refl)
fails_unless bytes e is not = is

pub too_long : (bytes : List ℕ) → length bytes ≡ MOST_TABLE_BYTES + 1 → position_of bytes ≡ Err errors.TooLong
unfolding position_of object_at
too_long bytes is = let over : nat_lt MOST_TABLE_BYTES (length bytes) ≡ true = rw is refl in rw over refl
