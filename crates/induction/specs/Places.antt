-- Words by places.
use Rattle.std.specs.Prelude.{◌≡◌, ℕ, ◌≤◌, nat_lt, cond, Option, None, Some, List, length, get_or, All, Bool}
use Rattle.induction.specs.Keys.{key_place}

-- the words of the first places, and the places behind them that have one, with their words
pub record PlaceWords : Type 0 where
  pub listed : List ℕ
  pub keys : List ℕ
  pub words : List ℕ

abbrev pub word_by : List ℕ → Option ℕ → ℕ
word_by words None = 0
word_by words (Some number) = get_or words number 0

-- the word of a place, 0 where none was put
unfoldable pub place_word : PlaceWords → ℕ → ℕ
place_word w place = cond (nat_lt place (length w.listed)) (get_or w.listed place 0) (word_by w.words (key_place w.keys place))

-- whether a word was put
abbrev pub is_put : PlaceWords → ℕ → Bool
is_put w place = nat_lt 0 (place_word w place)

-- each key has a word, and none is 0
pub record AreWords (keys words : List ℕ) : Type 0 where
  pub as_many : length words ≡ length keys
  pub some : All (λ word. 1 ≤ word) words
