-- The places of the states: their hands, scores and prizes, numbered.
use Rattle.std.specs.Prelude.{◌≡◌, ℕ, zero, suc, ◌+◌, ◌-◌, ◌*◌, ◌/◌, ◌%◌, max, pos, ◌-ℤ◌, unsigned_abs, Bool, true, false, ◌==◌, if◌then◌else◌, List, [], ◌∷◌, length, take, sum}
use Rattle.std.specs.Int.Count.{ones}
use Rattle.std.specs.List.{range_with_len}
use Rattle.sim_game.specs.Numbers.{Numbering, by_classes}
use Rattle.goofspiel.specs.declared.drawn.DrawnState.{DrawnState}
use Rattle.goofspiel.specs.declared.Setting.{Setting}
use Rattle.goofspiel.specs.declared.State.{State}
use Rattle.goofspiel.specs.Cards.{cards, places}
use Rattle.goofspiel.specs.Counts.{choose}
use Rattle.goofspiel.specs.Deals.{gone, spread}
use Rattle.goofspiel.specs.Position.{prizes_of}

-- ---- parts of a list
-- the second list is what is left of the first where some of its numbers are taken out
abbrev pub is_part : List ℕ → List ℕ → Bool
is_part [] [] = true
is_part [] (x ∷ xs) = false
is_part (y ∷ all) [] = true
is_part (y ∷ all) (x ∷ xs) = if x == y then is_part all xs else is_part all (x ∷ xs)

abbrev pub IsPartOf : List ℕ → List ℕ → Type 0
IsPartOf all xs = is_part all xs ≡ true

-- the number of a part among those of its length: parts without the first number come before those with it
abbrev pub part_number : List ℕ → List ℕ → ℕ
part_number [] xs = 0
part_number (y ∷ all) [] = 0
part_number (y ∷ all) (x ∷ xs) = if x == y then choose (length all) (suc (length xs)) + part_number all xs else part_number all (x ∷ xs)

-- the same of the set of bits of a number below 2 ^ count, among those bits
abbrev pub bits_number : ℕ → ℕ → ℕ
bits_number zero set = 0
bits_number (suc count) set = (if set % 2 == 1 then choose count (ones set) else 0) + bits_number count (set / 2)

-- ---- hands and scores
-- how many deals there are of so many hands of each side, with scores so far from the first one
abbrev pub deals : ℕ → ℕ → ℕ
deals hands far = (2 * far + 1) * (hands * hands)

-- both hands are parts of those at the root
pub record HasParts (g : Setting) (s : State) : Type 0 where
  pub one : IsPartOf (cards g.one) (cards s.one)
  pub two : IsPartOf (cards g.two) (cards s.two)

-- how many hands of so many cards each side has
abbrev pub hands : Setting → ℕ → ℕ
hands g left = choose g.count left

-- the number of the hands and the score, among those with as many cards and scores so far from the first one
abbrev pub deal_number : Setting → ℕ → State → ℕ
deal_number g far s =
    (part_number (cards g.one) (cards s.one) * hands g (length (cards s.one)) + part_number (cards g.two) (cards s.two)) * (2 * far + 1)
    + unsigned_abs (s.score -ℤ (g.score -ℤ pos far))

-- ---- the game with known prizes
-- how far the score can be from the first one where each side has so many cards
abbrev pub far_with : Setting → ℕ → ℕ
far_with g left = spread g.pay (sum (take (g.count - left) (prizes_of g)))

abbrev pub deals_with : Setting → ℕ → ℕ
deals_with g left = deals (hands g left) (far_with g left)

-- states with fewer cards come before those with more
abbrev pub goofspiel_numbering : Setting → Numbering State
goofspiel_numbering g = by_classes (g.count + 1) (λ s. length (cards s.one)) (λ s. deal_number g (spread g.pay (gone g s)) s) (deals_with g)

-- ---- the game with drawn prizes
-- how far the score can be from the first one
abbrev pub drawn_far : Setting → ℕ
drawn_far g = spread g.pay (sum (prizes_of g))

-- the places of all prizes but the first
abbrev pub later : Setting → List ℕ
later g = range_with_len 1 (g.count - 1)

-- how many sets of undrawn places there are where each side has so many cards
abbrev pub sets : Setting → ℕ → ℕ
sets g left = choose (g.count - 1) (left - 1)

abbrev pub drawn_deals_with : Setting → ℕ → ℕ
drawn_deals_with g left = max 1 g.count * (sets g left * deals (hands g left) (drawn_far g))

abbrev pub drawn_number : Setting → DrawnState → ℕ
drawn_number g s =
    (deal_number g (drawn_far g) s.hands * sets g (length (cards s.hands.one)) + part_number (later g) (places s.undrawn)) * max 1 g.count + s.place

abbrev pub drawn_numbering : Setting → Numbering DrawnState
drawn_numbering g = by_classes (g.count + 1) (λ s. length (cards s.hands.one)) (drawn_number g) (drawn_deals_with g)
