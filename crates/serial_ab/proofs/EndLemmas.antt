-- How a serial search ends, by the number that was found.
use Rattle.std.proofs.Common.{◌≡◌, ◌≢◌, ◌≤◌, ℤ, ◌≤ℤ◌, ◌<ℤ◌, sym, subst, ◌∙◌, arith}
use Rattle.std.proofs.lemmas.Int.{ints}
use Rattle.sim_game.specs.declared.Side.{Side}
use Rattle.sim_game.specs.declared.Side.TheVariants.{One, Two}
use Rattle.sim_game.specs.Model.{GameModel, IsGame, Reachable}
use Rattle.sim_game.specs.Sides.{IsNoTighter, opening_bound}
use Rattle.plan_book.specs.Serial.{serial_bound}
use Rattle.bounds_board.specs.Views.{BoardView, known_bound}
use Rattle.serial_ab.specs.declared.windowed.SerialEnd.{SerialEnd}
use Rattle.serial_ab.specs.declared.windowed.SerialEnd.TheVariants.{Exact, AtLeast, AtMost, Cut}
use Rattle.serial_ab.specs.Ends.{IsValue, IsPlaced, IsShown, IsPayoffWindow, worse_end, better_end}
use Rattle.serial_ab.specs.Searches.{IsWindow, IsNear, IsFound}
use Rattle.serial_ab.proofs.SearchLemmas.{near_between, found_seen, whole_seen}

within : (x y z : ℤ) → x <ℤ y → y ≤ℤ z → x ≤ℤ z
within x y z p q = omega (arith, ints)

from : (x y z : ℤ) → x ≤ℤ y → y <ℤ z → x ≤ℤ z
from x y z p q = omega (arith, ints)

pub apart : (w x y z : ℤ) → w ≤ℤ x → x <ℤ y → y ≤ℤ z → w <ℤ z
apart w x y z p q k = omega (arith, ints)

pub range_window : {S : Type 0} (m : GameModel S) (game : IsGame m) (side : Side) (s : S) (low high : ℤ) → Reachable m s → IsPayoffWindow m low high
    → IsWindow m side s (worse_end side low high) (better_end side low high)
range_window m game side s low high reach r = of side where
  above_low : IsNear m s low
  above_low = near_between m game s low reach r.from (within low high (opening_bound m Two) r.wide r.to)

  below_high : IsNear m s high
  below_high = near_between m game s high reach (from (opening_bound m One) low high r.from r.wide) r.to

  differ : opening_bound m One <ℤ opening_bound m Two
  differ = apart (opening_bound m One) low high (opening_bound m Two) r.from r.wide r.to

  of : (side : Side) → IsWindow m side s (worse_end side low high) (better_end side low high)
  of One = record { from = above_low; to = below_high; wide = r.wide; differ = differ }
  of Two = record { from = below_high; to = above_low; wide = r.wide; differ = differ }

both : (x y : ℤ) → x ≤ℤ y → y ≤ℤ x → x ≡ y
both x y p q = omega (arith, ints)

above : (x y z : ℤ) → x <ℤ y → y ≤ℤ z → x <ℤ z
above x y z p q = omega (arith, ints)

below : (x y z : ℤ) → x ≤ℤ y → y <ℤ z → x <ℤ z
below x y z p q = omega (arith, ints)

pub value_of : {S G N : Type 0} (m : GameModel S) (side : Side) (s : S) (low high : ℤ) (v : BoardView G N) (x : ℤ) (end : SerialEnd) → low <ℤ high
    → IsFound m side s (worse_end side low high) (better_end side low high) v x
    → IsPlaced low high x end → IsValue low high (serial_bound m side s) end
value_of m One s low high v x (Exact y) wide found p = (
  p.0 ∙ both x _ (found.proven p.1) (found.reached p.2),
  subst (λ (z : ℤ). low <ℤ z) (sym p.0) p.1,
  subst
      (λ (z : ℤ). z <ℤ high) (sym p.0) p.2,
)
value_of m One s low high v x (AtLeast y) wide found p = (
  subst (λ (z : ℤ). high ≤ℤ z) (sym p.0) p.1,
  subst (λ (z : ℤ). z ≤ℤ serial_bound m One s) (sym p.0)
      (found.proven (above low high x wide p.1)),
)
value_of m One s low high v x (AtMost y) wide found p = (
  subst (λ (z : ℤ). serial_bound m One s ≤ℤ z) (sym p.0) (found.reached (below x low high p.1 wide)),
  subst
      (λ (z : ℤ). z ≤ℤ low) (sym p.0) p.1,
)
value_of m One s low high v x Cut wide found p = tt
value_of m Two s low high v x (Exact y) wide found p = (
  p.0 ∙ both x _ (found.reached p.1) (found.proven p.2),
  subst (λ (z : ℤ). low <ℤ z) (sym p.0) p.1,
  subst
      (λ (z : ℤ). z <ℤ high) (sym p.0) p.2,
)
value_of m Two s low high v x (AtLeast y) wide found p = (
  subst (λ (z : ℤ). high ≤ℤ z) (sym p.0) p.1,
  subst (λ (z : ℤ). z ≤ℤ serial_bound m Two s) (sym p.0)
      (found.reached (above low high x wide p.1)),
)
value_of m Two s low high v x (AtMost y) wide found p = (
  subst (λ (z : ℤ). serial_bound m Two s ≤ℤ z) (sym p.0) (found.proven (below x low high p.1 wide)),
  subst
      (λ (z : ℤ). z ≤ℤ low) (sym p.0) p.1,
)
value_of m Two s low high v x Cut wide found p = tt

-- above the window's worse end the number is known
pub shown : {S G N : Type 0} (m : GameModel S) (side : Side) (s : S) (low high : ℤ) (v : BoardView G N) (x : ℤ) (end : SerialEnd) → 1 ≤ m.rank s → low <ℤ high
    → IsFound m side s (worse_end side low high) (better_end side low high) v x → IsPlaced low high x end → IsShown side (known_bound m v side s) end
shown m One s low high v x (Exact y) goes wide found p = subst (λ (z : ℤ). IsNoTighter One z (known_bound m v One s)) (sym p.0) (found_seen m One s v x goes found p.1)
shown m One s low high v x (AtLeast y) goes wide found p = subst (λ (z : ℤ). IsNoTighter One z (known_bound m v One s)) (sym p.0)
    (found_seen m One s v x goes found (above low high x wide p.1))
shown m One s low high v x (AtMost y) goes wide found p = tt
shown m One s low high v x Cut goes wide found p = tt
shown m Two s low high v x (Exact y) goes wide found p = subst (λ (z : ℤ). IsNoTighter Two z (known_bound m v Two s)) (sym p.0) (found_seen m Two s v x goes found p.2)
shown m Two s low high v x (AtLeast y) goes wide found p = tt
shown m Two s low high v x (AtMost y) goes wide found p = subst (λ (z : ℤ). IsNoTighter Two z (known_bound m v Two s)) (sym p.0)
    (found_seen m Two s v x goes found (below x low high p.1 wide))
shown m Two s low high v x Cut goes wide found p = tt

pub not_cut : (low high x : ℤ) (end : SerialEnd) → IsPlaced low high x end → end ≢ Cut
not_cut low high x (Exact y) p e = cc
not_cut low high x (AtLeast y) p e = cc
not_cut low high x (AtMost y) p e = cc
not_cut low high x Cut p e = p

-- over the whole range the bound is known
pub whole_known : {S G N : Type 0} (m : GameModel S) (game : IsGame m) (side : Side) (s : S) (v : BoardView G N) (x : ℤ) → Reachable m s → 1 ≤ m.rank s
    → opening_bound m One <ℤ opening_bound m Two
    → IsFound m side s (worse_end side (opening_bound m One) (opening_bound m Two)) (better_end side (opening_bound m One) (opening_bound m Two)) v x
    → IsNoTighter side (serial_bound m side s) (known_bound m v side s)
whole_known m game One s v x r goes wide found = whole_seen m game One s v x r goes found wide
whole_known m game Two s v x r goes wide found = whole_seen m game Two s v x r goes found wide
