-- Answers to bytes in memory.
use Rattle.std.specs.Prelude.{◌≡◌, ℕ, ◌+◌, Bool, List, [], take, Option, None, Some, Ok}
use Rattle.certificate.specs.declared.report.Report.{Report}
use Rattle.position.specs.Games.{OfGame}
use Rattle.position.specs.Position.{TaskText, position_of}
use Rattle.fields.specs.Ranges.{IsAskInRange}
use Rattle.solution.specs.Solutions.{IsSolution}
use Rattle.commands.specs.declared.words.Command.{Command}
use Rattle.commands.specs.declared.words.Command.TheVariants.{Reading, Sample}
use Rattle.commands.specs.Words.{HasFewGames}
use Rattle.commands.specs.Runs.{limit_of}

-- what a command takes of bytes in memory: at most one byte more than it reads
abbrev pub input_of : Option Command → List ℕ → List ℕ
input_of None bytes = []
input_of (Some (Sample number)) bytes = []
input_of (Some (Reading command)) bytes = take (limit_of command bytes + 1) bytes

-- as many games as can be played, where games are played
abbrev pub CanRun : Option Command → Type 0
CanRun None = Unit {0}
CanRun (Some (Sample number)) = Unit {0}
CanRun (Some (Reading command)) = HasFewGames command

-- a report of a search of the position that the bytes are, by a search that may be stopped or not
pub record IsFoundReport (may_stop : Bool) (bytes : List ℕ) (r : Report) : Type 0 where
  pub task : TaskText
  pub is_task : position_of bytes ≡ Ok task
  pub asked : IsAskInRange task.ask
  pub solution : OfGame task.text (λ S m. IsSolution m task.text task.ask may_stop r)
