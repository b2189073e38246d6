-- Keys that are found by open addressing.
use Rattle.std.specs.Prelude.{◌≡◌, ℕ, zero, suc, ◌+◌, ◌*◌, ◌/◌, ◌%◌, ◌^◌, ◌<◌, ◌≤◌, Option, List, length, get_or, nat_eq, cond}
use Rattle.std.specs.List.{IsDistinct, position}

-- the place of a key in a list of keys
abbrev pub key_place : List ℕ → ℕ → Option ℕ
key_place keys key = position (nat_eq key) keys

-- the slot at which a key is looked for first
unfoldable pub first_slot : ℕ → ℕ → ℕ → ℕ
first_slot slots shift key =
    ((key / 2 ^ (shift % 64) / 16) * 11400714819323198485) % 2 ^ 64 / 4294967296 * (slots / 16) / 4294967296 * 16 + key / 2 ^ (shift % 64) % 16

-- the slot after another one, around the end
abbrev pub slot_after : ℕ → ℕ → ℕ
slot_after slots slot = cond (nat_eq (slot + 1) slots) 0 (slot + 1)

-- the slot so many steps on
unfoldable pub slot_at : ℕ → ℕ → ℕ → ℕ
slot_at slots first zero = first
slot_at slots first (suc steps) = slot_after slots (slot_at slots first steps)

-- the name stands so many steps on, and no slot before it is free
pub record IsNamed (count : ℕ) (slots : List ℕ) (first name : ℕ) : Type 0 where
  pub steps : ℕ
  pub few : steps < count
  pub there : get_or slots (slot_at count first steps) 0 ≡ name
  pub before : (u : ℕ) → u < steps → 1 ≤ get_or slots (slot_at count first u) 0

-- the slot is free, and no slot before it is
pub record IsFreeSlot (count : ℕ) (slots : List ℕ) (first slot : ℕ) : Type 0 where
  pub within : slot < length slots
  pub steps : ℕ
  pub few : steps < count
  pub there : slot_at count first steps ≡ slot
  pub free : get_or slots slot 0 ≡ 0
  pub before : (u : ℕ) → u < steps → 1 ≤ get_or slots (slot_at count first u) 0

-- each of the first so many keys is found by one more than its place
abbrev pub AreFound : ℕ → List ℕ → ℕ → List ℕ → ℕ → Type 0
AreFound count slots shift keys most = (i : ℕ) → i < most → IsNamed count slots (first_slot count shift (get_or keys i 0)) (i + 1)

-- the keys differ, and each is found
pub record IsIndexed (slots : List ℕ) (shift : ℕ) (keys : List ℕ) : Type 0 where
  pub few : length slots ≤ 4294967296
  pub enough : 1 ≤ length keys → 16 ≤ length slots
  pub distinct : IsDistinct nat_eq keys
  pub found : AreFound (length slots) slots shift keys (length keys)
