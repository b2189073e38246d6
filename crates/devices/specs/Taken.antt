-- What sources and sinks tell, what a whole read takes from a source, and what a whole write leaves in a sink.
use Rattle.std.specs.Prelude.{◌≡◌, ℕ, ◌+◌, ◌<◌, ◌≤◌, List, length, take, if◌then◌else◌, nat_eq}
use Rattle.std.specs.List.{starts_with}
use Rattle.std.specs.declared.option.Option.{Option}
use Rattle.std.specs.Io.KnownBytes.{Consumes, Appends}

-- the bytes still to come, where the source tells them, and how often a call failed; the count stands still at its last value
pub record SourceState : Type 0 where
  pub left : Option (List ℕ)
  pub faults : ℕ

-- the bytes written so far, where the sink tells them, and how often a call failed
pub record SinkState : Type 0 where
  pub written : Option (List ℕ)
  pub faults : ℕ

-- n bytes were taken
abbrev pub Takes : Option (List ℕ) → Option (List ℕ) → ℕ → Type 0
Takes old new n = (bs : List ℕ) × Consumes old new bs × (length bs ≡ n)

-- at most n bytes were taken
abbrev pub ConsumesAtMost : Option (List ℕ) → Option (List ℕ) → ℕ → Type 0
ConsumesAtMost old new n = (bs : List ℕ) × Consumes old new bs × length bs ≤ n

-- how many bytes may be read: the one number, or the other where they begin with the head
abbrev pub limit_for : ℕ → List ℕ → ℕ → List ℕ → ℕ
limit_for most head with_head bytes = if starts_with nat_eq bytes head then with_head else most

-- no more bytes were taken than such bytes may be
abbrev pub TakesWithin : (List ℕ → ℕ) → Option (List ℕ) → Option (List ℕ) → Type 0
TakesWithin limit old new = (bs : List ℕ) × Consumes old new bs × length bs ≤ limit bs

-- one byte more was taken than such bytes may be
abbrev pub TakesPast : (List ℕ → ℕ) → Option (List ℕ) → Option (List ℕ) → Type 0
TakesPast limit old new = (bs : List ℕ) × Consumes old new bs × (length bs ≡ limit bs + 1)

-- a front of the bytes was appended, and not all of them
abbrev pub AppendsFront : Option (List ℕ) → Option (List ℕ) → List ℕ → Type 0
AppendsFront old new bytes = (n : ℕ) × n < length bytes × Appends old new (take n bytes)
