-- Which lists of cards and prizes make a position, and the first fault of the others.
use Rattle.std.specs.Prelude.{◌≡◌, ℕ, ◌-◌, ◌<◌, ◌≤◌, ◌^◌, ℤ, unsigned_abs, ◌&&◌, if◌then◌else◌, ◌==◌, nat_lt, List, [], ◌∷◌, ◌++◌, length, take, replicate, position, All, Option, Some, None, option_map}
use Rattle.std.specs.List.{list_any}
use Rattle.sim_game.specs.declared.Side.{Side}
use Rattle.sim_game.specs.declared.Side.TheVariants.{One, Two}
use Rattle.text.specs.Faults.{is_outside, first_some}
use Rattle.goofspiel.specs.declared.GoofspielError.{GoofspielError}
use Rattle.goofspiel.specs.declared.GoofspielError.TheVariants.{CardRange, CardTwice, Lengths, PrizeRange, ScoreRange}
use Rattle.goofspiel.specs.declared.Pay.{Pay}
use Rattle.goofspiel.specs.declared.Setting.{Setting}
use Rattle.goofspiel.specs.Cards.{cards, rising}

-- ---- the rules, each with what is said where it is broken
-- the first card that is not 1 to 13
abbrev pub card_range : Side → List ℕ → Option GoofspielError
card_range side hand = option_map (CardRange side) (position (is_outside 1 13) hand)

-- the first card that stood before; `earlier` came before the list
abbrev pub repeat_after : List ℕ → List ℕ → Option ℕ
repeat_after earlier [] = None
repeat_after earlier (card ∷ hand) = if list_any (λ other. other == card) earlier then Some card else repeat_after (earlier ++ card ∷ []) hand

-- the first card that stands twice in the hand
abbrev pub card_twice : Side → List ℕ → Option GoofspielError
card_twice side hand = option_map (CardTwice side) (repeat_after [] hand)

-- the three lengths are not equal
abbrev pub lengths : List ℕ → List ℕ → List ℕ → Option GoofspielError
lengths one two prizes = if (length one == length two) && (length two == length prizes) then None else Some (Lengths (length one) (length two) (length prizes))

-- the first prize that is not 1 to 100
abbrev pub prize_range : List ℕ → Option GoofspielError
prize_range prizes = option_map PrizeRange (position (is_outside 1 100) prizes)

-- the score is not -1000 to 1000
abbrev pub score_range : ℤ → Option GoofspielError
score_range score = if nat_lt 1000 (unsigned_abs score) then Some ScoreRange else None

-- the first rule that is broken
abbrev pub first_fault : List ℕ → List ℕ → List ℕ → ℤ → Option GoofspielError
first_fault one two prizes score = first_some (
    card_range One one ∷ card_range Two two ∷
    card_twice One one ∷ card_twice Two two ∷
    lengths one two prizes ∷ prize_range prizes ∷ score_range score ∷ [])

-- ---- positions
-- the prizes in their order
abbrev pub prizes_of : Setting → List ℕ
prizes_of g = take g.count g.prizes

-- the packed hand of a list of cards, each of which stands once in it
pub record IsHandOf (list : List ℕ) (hand : ℕ) : Type 0 where
  pub small : hand < 2 ^ 13
  pub is : cards hand ≡ rising list
  pub count : length (cards hand) ≡ length list
  pub few : length list ≤ 13
  pub no_repeat : repeat_after [] list ≡ None

-- the setting holds these cards and prizes
pub record IsSettingOf (one two prizes : List ℕ) (score : ℤ) (pay : Pay) (g : Setting) : Type 0 where
  pub one_small : g.one < 2 ^ 13
  pub one_is : cards g.one ≡ rising one
  pub two_small : g.two < 2 ^ 13
  pub two_is : cards g.two ≡ rising two
  pub count_is : g.count ≡ length prizes
  -- zeros stand behind the prizes
  pub prizes_are : g.prizes ≡ prizes ++ replicate (13 - length prizes) 0
  pub score_is : g.score ≡ score
  pub pay_is : g.pay ≡ pay

-- the setting can be played: hands of one size, a prize for each card, and a score, all within their ranges
pub record IsPosition (g : Setting) : Type 0 where
  pub one_small : g.one < 2 ^ 13
  pub two_small : g.two < 2 ^ 13
  pub one_count : length (cards g.one) ≡ g.count
  pub two_count : length (cards g.two) ≡ g.count
  pub prize_count : length (prizes_of g) ≡ g.count
  pub prize_high : All (λ prize. prize ≤ 100) (prizes_of g)
  pub score_small : unsigned_abs g.score ≤ 1000
