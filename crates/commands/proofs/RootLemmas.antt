-- How the two serial searches of a root end.
use Rattle.std.proofs.Common.{◌≡◌, ℕ, ◌≤◌, ap₂, subst, arith}
use Rattle.sim_game.specs.declared.Side.{Side}
use Rattle.sim_game.specs.declared.Side.TheVariants.{One, Two}
use Rattle.sim_game.specs.Model.{GameModel, HasAtMost}
use Rattle.plan_book.specs.Serial.{serial_bound, tree_size}
use Rattle.serial_ab.specs.Counts.{VisitsView, spent_on}
use Rattle.serial_ab.specs.declared.roots.RootEnd.{RootEnd}
use Rattle.serial_ab.specs.declared.roots.RootEnd.TheVariants.{Found, Cut, Full}
use Rattle.serial_ab.specs.Roots.{IsRootEnd}
use Rattle.fields.specs.declared.ask.Ask.{Ask}
use Rattle.commands.specs.Bounded.{unspent, IsSearchedRoot}

found_whole : {S : Type 0} (m : GameModel S) (ask : Ask) (spent : VisitsView) (end : RootEnd) → IsRootEnd m ask.rows (unspent ask) spent end → HasAtMost m ask.rows → tree_size m m.root ≤ ask.visits
    → end ≡ Found (serial_bound m One m.root) (serial_bound m Two m.root)
found_whole m ask spent (Found lower upper) e has many = ap₂ Found e.0.value e.1.value
found_whole m ask spent (Cut One) e has many = let few = e.cut.too_few in absurd (omega (arith, few, many))
found_whole m ask spent (Cut Two) e has many = let few = e.0.cut.too_few in absurd (omega (arith, few, many))
found_whole m ask spent Full e has many = absurd (e.2 has)

pub searched_root : {S : Type 0} (m : GameModel S) (ask : Ask) (spent : VisitsView) (end : RootEnd) → spent.limit ≡ ask.visits
    → ((side : Side) → spent_on side spent ≤ spent.limit) → IsRootEnd m ask.rows (unspent ask) spent end
    → IsSearchedRoot m ask end
searched_root m ask spent end limit within ends = record {
  spent = spent;
  limit = limit;
  within = λ side. subst (λ (n : ℕ). spent_on side spent ≤ n) limit (within side);
  ends = ends;
  whole = found_whole m ask spent end ends;
}
