-- What holds of the numbers below a number.
use Rattle.std.specs.Prelude.{ℕ, zero, suc, max, ℤ, Bool, true, ◌&&◌, Option, None}
use Rattle.std.specs.Option.{option_or}
use Rattle.sim_game.specs.declared.Side.{Side}
use Rattle.sim_game.specs.Sides.{other_side, better}

-- the test passes at each
abbrev pub all_below : ℕ → (ℕ → Bool) → Bool
all_below zero p = true
all_below (suc n) p = all_below n p && p n

-- the greatest of f 0 to f (n - 1), and 0 where n is 0
abbrev pub highest_below : ℕ → (ℕ → ℕ) → ℕ
highest_below zero f = 0
highest_below (suc n) f = max (highest_below n f) (f n)

-- the worst for a side of f 0 to f last: the least for One, the greatest for Two
abbrev pub worst_upto : Side → ℕ → (ℕ → ℤ) → ℤ
worst_upto side zero f = f 0
worst_upto side (suc last) f = better (other_side side) (worst_upto side last f) (f (suc last))

-- the first of f 0 to f (n - 1) that there is
abbrev pub first_below : {T : Type 0} → ℕ → (ℕ → Option T) → Option T
first_below zero f = None
first_below (suc n) f = option_or (first_below n f) (f n)
