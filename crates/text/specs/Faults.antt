-- Words for the first rule that a position breaks.
use Rattle.std.specs.Prelude.{ℕ, Bool, ◌||◌, nat_lt, Option, None, List, [], ◌∷◌}
use Rattle.std.specs.Option.{option_or}

-- the number is not `low` to `high`
abbrev pub is_outside : ℕ → ℕ → ℕ → Bool
is_outside low high number = nat_lt number low || nat_lt high number

-- the first that there is
abbrev pub first_some : {T : Type 0} → List (Option T) → Option T
first_some [] = None
first_some (option ∷ options) = option_or option (first_some options)
