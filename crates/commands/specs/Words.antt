-- Which words are which command.
use Rattle.std.specs.Prelude.{ℕ, ◌≤◌, List, [], ◌∷◌, codes, bytes_eq, if◌then◌else◌, Option, None, Some, option_map}
use Rattle.certificate.specs.Numbers.{natural_in}
use Rattle.sim_game.specs.declared.Side.{Side}
use Rattle.sim_game.specs.declared.Side.TheVariants.{One, Two}
use Rattle.commands.specs.declared.words.ReadingCommand.{ReadingCommand}
use Rattle.commands.specs.declared.words.ReadingCommand.TheVariants.{Solve, Check, Bounds, Exploit, Play}
use Rattle.commands.specs.declared.words.Command.{Command}
use Rattle.commands.specs.declared.words.Command.TheVariants.{Reading, Sample}

-- the side whose plan is measured
abbrev pub side_of : List ℕ → Option Side
side_of word =
    if bytes_eq word (codes "one") then Some One else (if bytes_eq word (codes "two") then Some Two else None)

abbrev pub play_of : Option ℕ → Option ℕ → Option Command
play_of None seed = None
play_of (Some games) None = None
play_of (Some games) (Some seed) = Some (Reading (Play games seed))

-- how many games are played, and the seed of their words
abbrev pub games_in : List ℕ → Option ℕ
games_in word = natural_in 1 100000 word

abbrev pub seed_in : List ℕ → Option ℕ
seed_in word = natural_in 0 18446744073709551615 word

abbrev pub command_of : List (List ℕ) → Option Command
command_of [] = None
command_of (word ∷ []) =
    if bytes_eq word (codes "solve") then Some (Reading Solve)
    else (if bytes_eq word (codes "check") then Some (Reading Check)
    else (if bytes_eq word (codes "bounds") then Some (Reading Bounds) else None))
command_of (word ∷ next ∷ []) =
    if bytes_eq word (codes "sample") then option_map Sample (natural_in 0 1000000 next)
    else (if bytes_eq word (codes "exploit") then option_map (λ side. Reading (Exploit side)) (side_of next) else None)
command_of (word ∷ games ∷ seed ∷ []) =
    if bytes_eq word (codes "play") then play_of (games_in games) (seed_in seed) else None
command_of (word ∷ games ∷ seed ∷ next ∷ more) = None

-- as many games as can be played
abbrev pub HasFewGames : ReadingCommand → Type 0
HasFewGames Solve = Unit {0}
HasFewGames Check = Unit {0}
HasFewGames Bounds = Unit {0}
HasFewGames (Exploit side) = Unit {0}
HasFewGames (Play games seed) = (1 ≤ games) × (games ≤ 100000)
