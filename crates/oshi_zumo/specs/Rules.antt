-- The rules of Oshi-Zumo, on the wrestler's place and the coins of both sides.
use Rattle.std.specs.Prelude.{◌≡◌, ◌⊎◌, ◌↔◌, ℕ, ◌+◌, ◌-◌, ◌*◌, ◌/◌, ◌<◌, ◌≤◌, ◌^◌, max, ℤ, pos, neg_ℤ, ◌+ℤ◌, unsigned_abs, Bool, true, ◌||◌, ◌&&◌, nat_lt, if◌then◌else◌, List, [], ◌∷◌, length, slice_index, None}
use Rattle.std.specs.Int.{int_signum}
use Rattle.std.specs.List.{range_with_len}
use Rattle.sim_game.specs.declared.Limits.TheVariants.{Narrow}
use Rattle.sim_game.specs.declared.Side.{Side}
use Rattle.sim_game.specs.declared.Side.TheVariants.{One, Two}
use Rattle.sim_game.specs.Model.{GameModel, Turn, IsEnd, Reachable, after_turn, whole_chance}
use Rattle.sim_game.specs.Numbers.{Numbering}
use Rattle.oshi_zumo.specs.declared.Setting.{Setting}
use Rattle.oshi_zumo.specs.declared.State.{State}
use Rattle.oshi_zumo.specs.Position.{first_fault, most_coins}

-- ---- the rules
abbrev pub coins_of : Side → State → ℕ
coins_of One s = s.one
coins_of Two s = s.two

-- the wrestler is off the board
abbrev pub is_off : Setting → State → Bool
is_off g s = nat_lt g.size (unsigned_abs s.place)

-- the wrestler is off, or neither side has the least bid
abbrev pub is_bout_over : Setting → State → Bool
is_bout_over g s = is_off g s || (nat_lt s.one g.least && nat_lt s.two g.least)

-- what a side with these coins may bid: the least bid up to its coins, or 0 alone where it has too few
abbrev pub bids_from : ℕ → ℕ → List ℕ
bids_from least coins = if nat_lt coins least then 0 ∷ [] else range_with_len least (coins + 1 - least)

-- what a side may bid; nothing at an end
abbrev pub bids : Setting → Side → State → List ℕ
bids g side s = if is_bout_over g s then [] else bids_from g.least (coins_of side s)

-- the higher bidder pushes the wrestler one place toward the other side, and a tie moves nothing
abbrev pub push_of : ℕ → ℕ → ℤ
push_of one two =
    if nat_lt two one then pos 1 else
    if nat_lt one two then neg_ℤ (pos 1) else
    pos 0

-- both bids are paid
abbrev pub after_push : State → ℕ → ℕ → State
after_push s one two = record { place = s.place +ℤ push_of one two; one = s.one - one; two = s.two - two }

-- how many least bids the richer side can still pay
abbrev pub oshi_zumo_rank : Setting → State → ℕ
oshi_zumo_rank g s = if is_off g s then 0 else max (s.one / g.least) (s.two / g.least)

-- a side's coins or the least bid are beyond the narrow limits
abbrev pub is_wide_bout : Setting → Bool
is_wide_bout g = nat_lt (most_coins Narrow) g.one || (nat_lt (most_coins Narrow) g.two || nat_lt (most_coins Narrow) g.least)

-- how many bits of a key a side's coins take
abbrev pub coin_bits : Setting → ℕ
coin_bits g = if is_wide_bout g then 6 else 5

-- the place plus 16 in 5 bits, then One's coins and Two's coins in as many as the position wants
abbrev pub oshi_zumo_key : Setting → State → ℕ
oshi_zumo_key g s = (unsigned_abs (s.place +ℤ pos 16) * 2 ^ coin_bits g + s.one) * 2 ^ coin_bits g + s.two

-- ---- the places of states
-- how far the wrestler is from the place behind Two's end of the board
abbrev pub from_end : Setting → State → ℕ
from_end g s = unsigned_abs (s.place +ℤ pos (g.size + 1))

-- the digits are how far the wrestler is from there, One's coins and Two's coins
abbrev pub oshi_zumo_place : Setting → State → ℕ
oshi_zumo_place g s = (from_end g s * (g.one + 1) + s.one) * (g.two + 1) + s.two

abbrev pub oshi_zumo_numbering : Setting → Numbering State
oshi_zumo_numbering g = record { place = oshi_zumo_place g; most = (g.two + 1) * ((g.one + 1) * (2 * g.size + 3)) }

-- ---- the game
abbrev pub oshi_zumo_root : Setting → State
oshi_zumo_root g = record { place = g.place; one = g.one; two = g.two }

abbrev pub oshi_zumo_game : Setting → GameModel State
oshi_zumo_game g = record {
  root = oshi_zumo_root g;
  moves = λ side s. length (bids g side s);
  draws = λ s one two. 1;
  chance = λ s one two draw. whole_chance;
  drawn = λ s one two draw. after_push s (slice_index (bids g One s) one) (slice_index (bids g Two s) two);
  payoff = λ s. int_signum s.place;
  reward = λ s one two draw. pos 0;
  least = λ s. neg_ℤ (pos 1);
  most = λ s. pos 1;
  rank = oshi_zumo_rank g;
  key = oshi_zumo_key g;
  label = λ side s i. slice_index (bids g side s) i;
  low = neg_ℤ (pos 1);
  high = pos 1;
  width = max 1 (max (g.one + 1 - g.least) (g.two + 1 - g.least));
  chance_free = true;
}

-- each call answers by the rules on the place and the coins
pub record KeepsRules (g : Setting) : Type 0 where
  pub root : (oshi_zumo_game g).root ≡ record { place = g.place; one = g.one; two = g.two }
  pub moves : (side : Side) (s : State) → (oshi_zumo_game g).moves side s ≡ length (bids g side s)
  pub label : (side : Side) (s : State) (i : ℕ) → (oshi_zumo_game g).label side s i ≡ slice_index (bids g side s) i
  -- a bid can be paid
  pub paid : (side : Side) (s : State) (i : ℕ) → i < length (bids g side s) → slice_index (bids g side s) i ≤ coins_of side s
  pub follows : (s : State) (t : Turn)
      → after_turn (oshi_zumo_game g) s t ≡ after_push s (slice_index (bids g One s) t.one) (slice_index (bids g Two s) t.two)
  -- each pair of moves has one draw, of the whole weight
  pub draws : (s : State) (one two : ℕ) → (oshi_zumo_game g).draws s one two ≡ 1
  pub chance : (s : State) (one two draw : ℕ) → (oshi_zumo_game g).chance s one two draw ≡ whole_chance
  -- an end is where the wrestler is off, or where neither side has the least bid
  pub ends : (s : State) → IsEnd (oshi_zumo_game g) s ↔ ((g.size < unsigned_abs s.place) ⊎ ((s.one < g.least) × (s.two < g.least)))
  pub payoff : (s : State) → (oshi_zumo_game g).payoff s ≡ int_signum s.place
  -- all is paid at the end
  pub reward : (s : State) (one two draw : ℕ) → (oshi_zumo_game g).reward s one two draw ≡ pos 0
  pub rank : (s : State) → (oshi_zumo_game g).rank s ≡ oshi_zumo_rank g s
  pub key : (s : State) → (oshi_zumo_game g).key s ≡ oshi_zumo_key g s
  -- where the narrow limits hold the coins of a side take five bits
  pub narrow_key : first_fault Narrow g ≡ None → (s : State)
      → (oshi_zumo_game g).key s ≡ (unsigned_abs (s.place +ℤ pos 16) * 2 ^ 5 + s.one) * 2 ^ 5 + s.two
  pub low : (oshi_zumo_game g).low ≡ neg_ℤ (pos 1)
  pub high : (oshi_zumo_game g).high ≡ pos 1
  pub width : (oshi_zumo_game g).width ≡ max 1 (max (g.one + 1 - g.least) (g.two + 1 - g.least))
  pub chance_free : (oshi_zumo_game g).chance_free ≡ true
  pub same_state : (s t : State) → Reachable (oshi_zumo_game g) s → Reachable (oshi_zumo_game g) t
      → (oshi_zumo_game g).key s ≡ (oshi_zumo_game g).key t → s ≡ t
