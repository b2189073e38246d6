-- Sources and sinks in memory, as callers see them.
use Rattle.std.specs.Prelude.{◌≡◌, ℕ, ◌+◌, ◌-◌, ◌^◌, min, List, length}

-- the bytes to come, the numbers of the calls that fail, the calls so far and the faults
pub record Feed : Type 0 where
  pub left : List ℕ
  pub failing : List ℕ
  pub calls : ℕ
  pub faults : ℕ

-- the bytes written and those that there is room for, the most that a call takes, and the rest as above
pub record Store : Type 0 where
  pub written : List ℕ
  pub room : ℕ
  pub chunk : ℕ
  pub failing : List ℕ
  pub calls : ℕ
  pub faults : ℕ

abbrev pub room_left : Store → ℕ
room_left s = s.room - length s.written

-- one call more, up to the last value of the type, with the same room, chunk and calls that fail
pub record CountsCall (old new : Store) : Type 0 where
  pub calls : new.calls ≡ min (old.calls + 1) (2 ^ 64 - 1)
  pub listed : new.failing ≡ old.failing
  pub chunk : new.chunk ≡ old.chunk
  pub room : new.room ≡ old.room
