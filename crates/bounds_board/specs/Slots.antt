-- The rows of a plain board, and the heads by which a key's row is found.
use Rattle.std.specs.Prelude.{◌≡◌, ◌≢◌, ℕ, ◌+◌, ◌*◌, ◌/◌, ◌%◌, ◌<◌, ◌≤◌, ℤ, min, cond, Some, List, length, map, All, sum_by, slice_get, slice_index}
use Rattle.sim_game.specs.declared.Side.{Side}
use Rattle.sim_game.specs.declared.Side.TheVariants.{One, Two}
use Rattle.sim_game.specs.declared.TheConstants.{MOST_ROWS}
use Rattle.sim_game.specs.Sides.{better}
use Rattle.plan_book.specs.Books.{same_side}
use Rattle.bounds_board.specs.declared.slots.Slot.{Slot}
use Rattle.bounds_board.specs.declared.slots.ProbeEnd.{ProbeEnd}
use Rattle.bounds_board.specs.declared.slots.ProbeEnd.TheVariants.{Row, Free, Full}

-- the head at which a probe for the key begins: the high half of a product, brought into range by a second one
abbrev pub home : ℕ → ℕ → ℕ
home rows key = key * 11400714819323198485 % 18446744073709551616 / 4294967296 * rows / 4294967296

-- the head that a probe for the key tries after so many others
abbrev pub head_after : ℕ → ℕ → ℕ → ℕ
head_after rows key tried = (home rows key % rows + tried) % rows

-- the keys of the rows, in order of claim
abbrev pub keys_of : List Slot → List ℕ
keys_of slots = map (λ s. s.key) slots

-- how many heads are not free
abbrev pub taken : List ℕ → ℕ
taken heads = sum_by (λ named. min named 1) heads

-- the head names a row of another key
pub record IsOther (heads keys : List ℕ) (key head : ℕ) : Type 0 where
  pub row : ℕ
  pub names : slice_index heads head ≡ row + 1
  pub held : ℕ
  pub is_held : slice_get keys row ≡ Some held
  pub differs : held ≢ key

-- the first free head from the key's home, over heads that name rows of other keys
pub record IsFree (heads keys : List ℕ) (key head : ℕ) : Type 0 where
  pub tried : ℕ
  pub here : head ≡ head_after (length heads) key tried
  pub inside : tried < length heads
  pub passed : (t : ℕ) → t < tried → IsOther heads keys key (head_after (length heads) key t)
  pub free : slice_index heads head ≡ 0

-- what a probe for the key ends at
abbrev pub IsProbeEnd : List ℕ → List ℕ → ℕ → ProbeEnd → Type 0
IsProbeEnd heads keys key (Row row) = slice_get keys row ≡ Some key
IsProbeEnd heads keys key (Free head) = IsFree heads keys key head
IsProbeEnd heads keys key Full = (head : ℕ) → head < length heads → IsOther heads keys key head

-- the row of the key is named by a head behind the key's home, over heads that are not free
pub record IsProbed (heads : List ℕ) (key row : ℕ) : Type 0 where
  pub tried : ℕ
  pub inside : tried < length heads
  pub names : slice_index heads (head_after (length heads) key tried) ≡ row + 1
  pub passed : (t : ℕ) → t < tried → 1 ≤ slice_index heads (head_after (length heads) key t)

-- each row is found by its key
pub record IsHashTable (heads keys : List ℕ) : Type 0 where
  pub rows_low : 1 ≤ length heads
  pub rows_high : length heads ≤ MOST_ROWS
  pub named : All (λ named. named ≤ length keys) heads
  pub one_each : taken heads ≡ length keys
  pub probed : (row key : ℕ) → slice_get keys row ≡ Some key → IsProbed heads key row
  pub apart : (row other key : ℕ) → slice_get keys row ≡ Some key → slice_get keys other ≡ Some key → row ≡ other

abbrev pub slot_bound : Slot → Side → ℤ
slot_bound slot One = slot.lower
slot_bound slot Two = slot.upper

-- one of the bounds of the slot was made at least as tight as a bound
pub record IsMet (side : Side) (bound : ℤ) (old new : Slot) : Type 0 where
  pub key : new.key ≡ old.key
  pub bounds : (other : Side) → slot_bound new other ≡ cond (same_side side other) (better other bound (slot_bound old other)) (slot_bound old other)
