-- Which positions of Oshi-Zumo are played, and the first fault of the others.
use Rattle.std.specs.Prelude.{◌≡◌, ℕ, ◌≤◌, ℤ, unsigned_abs, ◌||◌, ◌==◌, nat_lt, if◌then◌else◌, Option, Some, None}
use Rattle.sim_game.specs.declared.Limits.{Limits}
use Rattle.sim_game.specs.declared.Limits.TheVariants.{Narrow, Wide}
use Rattle.oshi_zumo.specs.declared.Setting.{Setting}
use Rattle.oshi_zumo.specs.declared.OshiError.{OshiError}
use Rattle.oshi_zumo.specs.declared.OshiError.TheVariants.{SizeRange, CoinRange, LeastRange, PlaceRange}

abbrev pub setting_of : ℕ → ℕ → ℕ → ℕ → ℤ → Setting
setting_of size one two least place = record { size = size; one = one; two = two; least = least; place = place }

-- the setting holds these numbers
abbrev pub IsSettingOf : ℕ → ℕ → ℕ → ℕ → ℤ → Setting → Type 0
IsSettingOf size one two least place g = g ≡ setting_of size one two least place

-- the most coins that a side may have, and the highest least bid
abbrev pub most_coins : Limits → ℕ
most_coins Narrow = 31
most_coins Wide = 63

-- the first rule that is broken
abbrev pub first_fault : Limits → Setting → Option OshiError
first_fault limits g =
    if nat_lt 8 g.size then Some SizeRange else
    if nat_lt (most_coins limits) g.one || nat_lt (most_coins limits) g.two then Some CoinRange else
    if (g.least == 0) || nat_lt (most_coins limits) g.least then Some LeastRange else
    if nat_lt g.size (unsigned_abs g.place) then Some PlaceRange else
    None

-- the setting can be played, within the wide limits
pub record IsPosition (g : Setting) : Type 0 where
  pub size_high : g.size ≤ 8
  pub one_high : g.one ≤ most_coins Wide
  pub two_high : g.two ≤ most_coins Wide
  pub least_low : 1 ≤ g.least
  pub least_high : g.least ≤ most_coins Wide
  pub on_board : unsigned_abs g.place ≤ g.size
