-- Hands of cards and sets of places: the list of a set, and the number that packs it.
use Rattle.std.specs.Prelude.{ℕ, ◌==◌, List, filter}
use Rattle.std.specs.List.{range_with_len, list_any}
unfoldable pub use Rattle.state_key.specs.Sets.{members}
pub use Rattle.state_key.specs.Sets.{packed_from}

-- the cards of a packed hand, rising: the bit of card 1 is the lowest, that of card 13 the highest
abbrev pub cards : ℕ → List ℕ
cards hand = members 13 1 hand

-- the places in a packed set, rising: the bit of place 0 is the lowest, that of place 12 the highest
abbrev pub places : ℕ → List ℕ
places set = members 13 0 set

-- the packed hand: the sum of 2 ^ (card - 1) over its cards
abbrev pub packed : List ℕ → ℕ
packed hand = packed_from 1 hand

-- the cards that stand in a list, rising
unfoldable pub rising : List ℕ → List ℕ
rising list = filter (λ card. list_any (λ other. other == card) list) (range_with_len 1 13)
