-- What a run of the program takes, answers and writes.
use Rattle.std.specs.Prelude.{◌≡◌, ◌⊎◌, ℕ, ◌+◌, ◌≤◌, Bool, List, length, Option, None, Some, Result, Ok, Err}
use Rattle.std.specs.Io.KnownBytes.{Consumes, IsAtEnd, Appends}
use Rattle.certificate.specs.declared.report.Outcome.{Outcome}
use Rattle.certificate.specs.declared.report.Outcome.TheVariants.{Closed, Settled, Spent, Full, Stopped}
use Rattle.certificate.specs.declared.report.Report.{Report}
use Rattle.certificate.specs.Texts.{report_text}
use Rattle.certificate.specs.Reading.{read_report}
use Rattle.position.specs.declared.reading.TheConstants.{MOST_TABLE_BYTES}
use Rattle.position.specs.declared.games.InputError.{InputError}
use Rattle.position.specs.Position.{TaskText, position_of}
use Rattle.devices.specs.Causes.{Rose}
use Rattle.devices.specs.Taken.{SourceState, SinkState, TakesWithin, AppendsFront}
use Rattle.fields.specs.Ranges.{IsAskInRange}
use Rattle.solution.specs.Solutions.{IsSolution}
use Rattle.sim_game.specs.declared.NoMemory.{NoMemory}
use Rattle.commands.specs.declared.run.Answer.{Answer}
use Rattle.commands.specs.declared.words.ReadingCommand.{ReadingCommand}
use Rattle.commands.specs.declared.words.ReadingCommand.TheVariants.{Solve, Check, Bounds, Exploit, Play}
use Rattle.commands.specs.declared.words.Command.{Command}
use Rattle.commands.specs.declared.words.Command.TheVariants.{Reading, Sample}
use Rattle.position.specs.Games.{OfGame}
use Rattle.commands.specs.Checks.{most_report, IsChecked}
use Rattle.commands.specs.Bounded.{IsBounded}
use Rattle.commands.specs.Measured.{IsExploited}
use Rattle.commands.specs.Matches.{IsPlayedMatch}
use Rattle.commands.specs.Samples.{IsSampleReport, sample_line}
use Rattle.commands.specs.Texts.{usage_text, input_text}

-- ---- answers
abbrev pub status_of : Outcome → ℕ
status_of Closed = 0
status_of Settled = 3
status_of Spent = 4
status_of Full = 5
status_of Stopped = 4

-- the status and the text that solve answers to the bytes of a position, by a search that may be stopped or not
pub data IsSolved (may_stop : Bool) (bytes : List ℕ) : ℕ → List ℕ → Type 0 where
  refused : (e : InputError) → position_of bytes ≡ Err e → IsSolved may_stop bytes 2 (input_text e)
  reported : (task : TaskText) (r : Report) → position_of bytes ≡ Ok task → IsAskInRange task.ask
      → OfGame task.text (λ S m. IsSolution m task.text task.ask may_stop r) → read_report (report_text r) ≡ Ok r
      → IsSolved may_stop bytes (status_of r.outcome) (report_text r)

-- the status and the text that sample answers to a number
pub data IsSampled (number : ℕ) : ℕ → List ℕ → Type 0 where
  reported : (r : Report) → IsSampleReport number r → IsSampled number (status_of r.outcome) (sample_line number r)

-- to the bytes that a command is given; only a search by solve may be stopped
abbrev pub IsAnswerTo : Bool → ReadingCommand → List ℕ → ℕ → List ℕ → Type 0
IsAnswerTo may_stop Solve bytes status text = IsSolved may_stop bytes status text
IsAnswerTo may_stop Check bytes status text = IsChecked bytes status text
IsAnswerTo may_stop Bounds bytes status text = IsBounded bytes status text
IsAnswerTo may_stop (Exploit side) bytes status text = IsExploited side bytes status text
IsAnswerTo may_stop (Play games seed) bytes status text = IsPlayedMatch games seed bytes status text

-- to the words that are no command, to the number of a sample, or to the bytes that a command is given
abbrev pub IsAnswer : Bool → Option Command → List ℕ → ℕ → List ℕ → Type 0
IsAnswer may_stop None bytes status text = (status ≡ 1) × (text ≡ usage_text)
IsAnswer may_stop (Some (Sample number)) bytes status text = IsSampled number status text
IsAnswer may_stop (Some (Reading command)) bytes status text = IsAnswerTo may_stop command bytes status text

-- ---- what is taken
-- how many bytes a command reads, of bytes that begin so
abbrev pub limit_of : ReadingCommand → List ℕ → ℕ
limit_of Solve bytes = MOST_TABLE_BYTES
limit_of Check bytes = most_report bytes
limit_of Bounds bytes = MOST_TABLE_BYTES
limit_of (Exploit side) bytes = most_report bytes
limit_of (Play games seed) bytes = most_report bytes

-- all that was left, or one byte more than the limit, from a source of which no call failed
pub record IsInput (limit : List ℕ → ℕ) (old new : SourceState) (bytes : List ℕ) : Type 0 where
  pub taken : Consumes old.left new.left bytes
  pub whole : (length bytes ≤ limit bytes × IsAtEnd new.left) ⊎ (length bytes ≡ limit bytes + 1)
  pub calm : new.faults ≡ old.faults

-- words that are no command, and sample, leave the source as it was
abbrev pub IsTaken : Option Command → SourceState → SourceState → List ℕ → Type 0
IsTaken None old new bytes = new ≡ old
IsTaken (Some (Sample number)) old new bytes = new ≡ old
IsTaken (Some (Reading command)) old new bytes = IsInput (limit_of command) old new bytes

abbrev pub IsTakenInPart : Option Command → SourceState → SourceState → Type 0
IsTakenInPart None old new = new ≡ old
IsTakenInPart (Some (Sample number)) old new = new ≡ old
IsTakenInPart (Some (Reading command)) old new =
    TakesWithin (λ bytes. limit_of command bytes + 1) old.left new.left × (new.faults ≡ old.faults)

-- ---- runs
-- by a gate that may stop it or not, with a source and a sink, before and after
pub data IsRun (may_stop : Bool) (command : Option Command) (source source' : SourceState) (sink sink' : SinkState) : ℕ → Type 0 where
  -- the whole text of an answer is written
  answered : (bytes text : List ℕ) (status : ℕ) → IsTaken command source source' bytes
      → IsAnswer may_stop command bytes status text → Appends sink.written sink'.written text
      → IsRun may_stop command source source' sink sink' status
  -- the source of a command that reads failed: nothing is written
  unread : (reading : ReadingCommand) → command ≡ Some (Reading reading)
      → TakesWithin (limit_of reading) source.left source'.left → Rose source.faults source'.faults → sink' ≡ sink
      → IsRun may_stop command source source' sink sink' 6
  -- the sink failed: a part of an answer's text is written
  cut_off : (bytes text : List ℕ) (status : ℕ) → IsTaken command source source' bytes
      → IsAnswer may_stop command bytes status text → AppendsFront sink.written sink'.written text
      → Rose sink.faults sink'.faults
      → IsRun may_stop command source source' sink sink' 7
  -- want of memory, and no call of the source failed: nothing is written
  no_memory : IsTakenInPart command source source' → sink' ≡ sink → IsRun may_stop command source source' sink sink' 8

-- the answer was written, whole or in part, or there was no memory for it
pub data IsWritten (answer : Result Answer NoMemory) (sink sink' : SinkState) : ℕ → Type 0 where
  whole : (a : Answer) → answer ≡ Ok a → Appends sink.written sink'.written a.text
      → IsWritten answer sink sink' a.status
  part : (a : Answer) → answer ≡ Ok a → AppendsFront sink.written sink'.written a.text → Rose sink.faults sink'.faults
      → IsWritten answer sink sink' 7
  nothing : (e : NoMemory) → answer ≡ Err e → sink' ≡ sink → IsWritten answer sink sink' 8
