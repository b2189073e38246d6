use Rattle.std.proofs.Common.{◌≡◌, ◌-◌, ◌++◌, take, replicate}
use Rattle.goofspiel.proofs.position.prize_array.Given as goal

abbrev pub invariant-loop-place : goal.invariant-loop-place
invariant-loop-place l = l.array ≡ take l.place l.prizes ++ replicate (13 - l.place) 0
