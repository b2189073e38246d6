-- How a serial search ends.
use Rattle.std.specs.Prelude.{◌≡◌, ℤ, ◌<ℤ◌, ◌≤ℤ◌}
use Rattle.sim_game.specs.declared.Side.{Side}
use Rattle.sim_game.specs.declared.Side.TheVariants.{One, Two}
use Rattle.sim_game.specs.Model.{GameModel}
use Rattle.sim_game.specs.Sides.{IsNoTighter, opening_bound}
use Rattle.serial_ab.specs.declared.windowed.SerialEnd.{SerialEnd}
use Rattle.serial_ab.specs.declared.windowed.SerialEnd.TheVariants.{Exact, AtLeast, AtMost, Cut}

-- the number against the value and the window
abbrev pub IsValue : ℤ → ℤ → ℤ → SerialEnd → Type 0
IsValue low high value (Exact x) = (x ≡ value) × (low <ℤ x) × (x <ℤ high)
IsValue low high value (AtLeast x) = (high ≤ℤ x) × (x ≤ℤ value)
IsValue low high value (AtMost x) = (value ≤ℤ x) × (x ≤ℤ low)
IsValue low high value Cut = Unit {0}

-- the number lies inside the window, or beyond one of its ends
abbrev pub IsPlaced : ℤ → ℤ → ℤ → SerialEnd → Type 0
IsPlaced low high x (Exact y) = (y ≡ x) × (low <ℤ x) × (x <ℤ high)
IsPlaced low high x (AtLeast y) = (y ≡ x) × (high ≤ℤ x)
IsPlaced low high x (AtMost y) = (y ≡ x) × (x ≤ℤ low)
IsPlaced low high x Cut = ⊥

-- a number inside the window or beyond the side's better end is no tighter than the bound that is known
abbrev pub IsShown : Side → ℤ → SerialEnd → Type 0
IsShown side known (Exact x) = IsNoTighter side x known
IsShown One known (AtLeast x) = IsNoTighter One x known
IsShown Two known (AtLeast x) = Unit {0}
IsShown One known (AtMost x) = Unit {0}
IsShown Two known (AtMost x) = IsNoTighter Two x known
IsShown side known Cut = Unit {0}

-- the window within the range of payoffs
pub record IsPayoffWindow {S : Type 0} (m : GameModel S) (low high : ℤ) : Type 0 where
  pub from : opening_bound m One ≤ℤ low
  pub wide : low <ℤ high
  pub to : high ≤ℤ opening_bound m Two

-- the end of the window that is worse for the side
abbrev pub worse_end : Side → ℤ → ℤ → ℤ
worse_end One low high = low
worse_end Two low high = high

abbrev pub better_end : Side → ℤ → ℤ → ℤ
better_end One low high = high
better_end Two low high = low
