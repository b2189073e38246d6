-- What a call answers in its caller's memory.
use Rattle.std.specs.Prelude.{◌≡◌, ℕ, List, length, take, drop, ◌++◌, Bool, false, ◌&&◌, nat_eq, nat_lt, nat_le, if◌then◌else◌, Option, None, Some}
use Rattle.sim_game.specs.declared.Side.TheVariants.{One, Two}
use Rattle.commands.specs.declared.words.Command.{Command}
use Rattle.commands.specs.declared.words.Command.TheVariants.{Reading, Sample}
use Rattle.commands.specs.declared.words.ReadingCommand.TheVariants.{Exploit, Play}
use Rattle.commands.specs.Alone.{input_of}
use Rattle.commands.specs.Runs.{IsAnswer}

-- ---- which numbers are which command
abbrev pub exploit_at : ℕ → Option Command
exploit_at side =
    if nat_eq side 0 then Some (Reading (Exploit One))
    else (if nat_eq side 1 then Some (Reading (Exploit Two)) else None)

-- how many games can be played
abbrev pub can_play : ℕ → Bool
can_play games = nat_lt 0 games && nat_le games 100000

abbrev pub play_at : ℕ → ℕ → Option Command
play_at games seed = if can_play games then Some (Reading (Play games seed)) else None

abbrev pub sample_at : ℕ → Option Command
sample_at number = if nat_lt 1000000 number then None else Some (Sample number)

-- ---- what is told
-- the front of a list, as far as there is room, and what was behind it
abbrev pub put_over : {A : Type 0} → List A → List A → List A
put_over items old = take (length old) items ++ drop (length items) old

-- a status, the output before and after, and the number for the text's length before and after
pub data IsToldInMemory (command : Option Command) (bytes old new : List ℕ) (size size' : ℕ) : ℕ → Type 0 where
  -- what a run of the program prints, as far as there is room
  answered : (status : ℕ) (text : List ℕ) → IsAnswer false command (input_of command bytes) status text
      → new ≡ put_over text old → size' ≡ length text → IsToldInMemory command bytes old new size size' status
  -- want of memory: nothing is written
  no_memory : new ≡ old → size' ≡ size → IsToldInMemory command bytes old new size size' 8
