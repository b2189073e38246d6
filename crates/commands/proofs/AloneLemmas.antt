-- Answers to bytes in memory.
use Rattle.std.proofs.Common.{◌≡◌, Bool, false, ℕ, ◌+◌, ◌≤◌, ◌<◌, List, length, take, drop, Result, IfOk, refl, sym, subst, ap, ◌∙◌, arith}
use Rattle.std.proofs.lemmas.List.{length-take-le, take_all, take-append-drop}
use Rattle.std.proofs.lemmas.Result.{IfOk-weaker}
use Rattle.sim_game.specs.declared.NoMemory.{NoMemory}
use Rattle.devices.proofs.LimitLemmas.{limit_kept, limit_least}
use Rattle.commands.specs.declared.run.Answer.{Answer}
use Rattle.commands.specs.declared.words.ReadingCommand.{ReadingCommand}
use Rattle.commands.specs.declared.words.ReadingCommand.TheVariants.{Solve, Check, Bounds, Exploit, Play}
use Rattle.commands.specs.Checks.{newest_head, most_report}
use Rattle.commands.specs.Runs.{IsAnswerTo, limit_of}

-- the front of bytes with a whole head has the limit of them all
front_limit : (n : ℕ) (bytes : List ℕ) → 17 ≤ n → n ≤ length bytes → most_report (take n bytes) ≡ most_report bytes
front_limit n bytes head long =
    sym (limit_kept 1073741824 4294967296 newest_head (take n bytes) (drop n bytes) (omega (arith, length-take-le n bytes long)))
    ∙ ap most_report (take-append-drop n bytes)

limit_of_front : (command : ReadingCommand) (n : ℕ) (bytes : List ℕ) → 17 ≤ n → n ≤ length bytes → limit_of command (take n bytes) ≡ limit_of command bytes
limit_of_front Solve n bytes head long = refl
limit_of_front Check n bytes head long = front_limit n bytes head long
limit_of_front Bounds n bytes head long = refl
limit_of_front (Exploit side) n bytes head long = front_limit n bytes head long
limit_of_front (Play games seed) n bytes head long = front_limit n bytes head long

most_least : (bytes : List ℕ) → 17 ≤ most_report bytes
most_least bytes = let least = limit_least 1073741824 4294967296 newest_head (omega arith) bytes in omega (arith, least)

limit_of_least : (command : ReadingCommand) (bytes : List ℕ) → 17 ≤ limit_of command bytes
limit_of_least Solve bytes = omega arith
limit_of_least Check bytes = most_least bytes
limit_of_least Bounds bytes = omega arith
limit_of_least (Exploit side) bytes = most_least bytes
limit_of_least (Play games seed) bytes = most_least bytes

-- of more bytes than a command reads it takes one more than that
pub long_input : (command : ReadingCommand) (bytes : List ℕ) (result : Result Answer NoMemory) → limit_of command bytes < length bytes
    → IfOk result (λ a. (may_stop : Bool) (all : List ℕ) → length all ≡ limit_of command all + 1 → IsAnswerTo may_stop command all a.status a.text)
    → IfOk result (λ a. IsAnswerTo false command (take (limit_of command bytes + 1) bytes) a.status a.text)
long_input command bytes result long said =
    let n = limit_of command bytes + 1 in
    let front = take n bytes in
    let more : n ≤ length bytes = omega (arith, long) in
    let same = limit_of_front command n bytes (omega (arith, limit_of_least command bytes)) more in
    let size : length front ≡ limit_of command front + 1 = length-take-le n bytes more ∙ ap (λ k. k + 1) (sym same) in
    IfOk-weaker result _ (λ a. IsAnswerTo false command front a.status a.text) (λ a s. s false front size) said

-- and else all of them
pub short_input : (command : ReadingCommand) (bytes : List ℕ) (result : Result Answer NoMemory) → length bytes ≤ limit_of command bytes
    → IfOk result (λ a. IsAnswerTo false command bytes a.status a.text) → IfOk result (λ a. IsAnswerTo false command (take (limit_of command bytes + 1) bytes) a.status a.text)
short_input command bytes result short said =
    let all : take (limit_of command bytes + 1) bytes ≡ bytes = take_all (limit_of command bytes + 1) bytes (omega (arith, short)) in
    subst (λ input. IfOk result (λ a. IsAnswerTo false command input a.status a.text)) (sym all) said
