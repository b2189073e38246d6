-- The words of a board. Word 0 is always 0. A row has three words: its key plus 1, or 0 while it is free, its lower
-- bound and its upper bound, each plus 4000000000.
use Rattle.std.specs.Prelude.{◌≡◌, ℕ, ◌+◌, ◌-◌, ◌*◌, ◌%◌, ◌<◌, ◌≤◌, suc, min, max, ℤ, pos, negsuc, ◌-ℤ◌, List, length, slice_index}
use Rattle.sim_game.specs.declared.Side.{Side}
use Rattle.sim_game.specs.declared.Side.TheVariants.{One, Two}
use Rattle.sim_game.specs.Model.{GameModel, Reachable}
use Rattle.sim_game.specs.Sides.{opening_bound}
use Rattle.plan_book.specs.Backed.{IsBacked}

-- the row that a claim of the key tries after so many others, from the key's home on
abbrev pub row_after : ℕ → ℕ → ℕ → ℕ
row_after rows key tried = (key % rows + tried) % rows

abbrev pub key_word : ℕ → ℕ
key_word i = 3 * i + 1

abbrev pub bound_word : Side → ℕ → ℕ
bound_word One i = 3 * i + 2
bound_word Two i = 3 * i + 3

-- how a bound stands in a word, and back
abbrev pub word_of : ℤ → ℕ
word_of (pos n) = n + 4000000000
word_of (negsuc n) = 4000000000 - suc n

abbrev pub as_bound : ℕ → ℤ
as_bound w = pos w -ℤ pos 4000000000

-- a is no tighter than b, for the side
abbrev pub IsLooser : Side → ℕ → ℕ → Type 0
IsLooser One a b = a ≤ b
IsLooser Two a b = b ≤ a

abbrev pub tighter : Side → ℕ → ℕ → ℕ
tighter One a b = max a b
tighter Two a b = min a b

abbrev pub key_in_row : List ℕ → ℕ → ℕ
key_in_row words i = slice_index words (key_word i)

abbrev pub bound_in_row : List ℕ → Side → ℕ → ℕ
bound_in_row words side i = slice_index words (bound_word side i)

module _ {S : Type 0} (m : GameModel S) where
  -- the word of the opening bound
  abbrev pub opening_word : Side → ℕ
  opening_word side = word_of (opening_bound m side)

  -- the bound in the word w is backed for the side at the state of the key
  unfoldable pub IsProved : Side → ℕ → ℕ → Type 0
  IsProved side k w = (s : S) → Reachable m s → m.key s ≡ k → IsBacked m side s (as_bound w)

-- the words of a board of free rows
pub record IsBlank (words : List ℕ) (rows low high : ℕ) : Type 0 where
  pub wide : length words ≡ 3 * rows + 1
  pub zero_first : slice_index words 0 ≡ 0
  pub free : (i : ℕ) → i < rows → key_in_row words i ≡ 0
  pub lower : (i : ℕ) → i < rows → bound_in_row words One i ≡ low
  pub upper : (i : ℕ) → i < rows → bound_in_row words Two i ≡ high
