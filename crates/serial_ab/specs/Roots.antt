-- What two serial searches of a whole game find, that of One first.
use Rattle.std.specs.Prelude.{◌≡◌, ℕ, ◌+◌, ◌≤◌, ℤ, ◌<ℤ◌}
use Rattle.sim_game.specs.declared.Side.{Side}
use Rattle.sim_game.specs.declared.Side.TheVariants.{One, Two}
use Rattle.sim_game.specs.Model.{GameModel, HasAtMost}
use Rattle.sim_game.specs.Sides.{state_bound}
use Rattle.plan_book.specs.Serial.{serial_bound, tree_size}
use Rattle.serial_ab.specs.Counts.{VisitsView, spent_on, left_on, IsCut}
use Rattle.serial_ab.specs.declared.roots.RootEnd.{RootEnd}
use Rattle.serial_ab.specs.declared.roots.RootEnd.TheVariants.{Found, Cut, Full}

-- the root is no end, and what can be got from it differs: only such a game is searched
pub record IsSearchable {S : Type 0} (m : GameModel S) : Type 0 where
  pub goes_on : 1 ≤ m.rank m.root
  pub wide : state_bound m One m.root <ℤ state_bound m Two m.root

-- the number is the serial bound of the root, and a search took two visits or more of those left
pub record IsRootValue {S : Type 0} (m : GameModel S) (side : Side) (old new : VisitsView) (x : ℤ) : Type 0 where
  pub value : x ≡ serial_bound m side m.root
  pub had_left : IsSearchable m → 1 ≤ left_on side old
  pub entered : IsSearchable m → spent_on side old + 2 ≤ spent_on side new

-- the search of the side was cut: no visit is left, and there were fewer than the tree has nodes
pub record IsRootCut {S : Type 0} (m : GameModel S) (side : Side) (old new : VisitsView) : Type 0 where
  pub searched : IsSearchable m
  pub cut : IsCut side (tree_size m m.root) old new

-- how the two searches over a board of so many rows end
abbrev pub IsRootEnd : {S : Type 0} → GameModel S → ℕ → VisitsView → VisitsView → RootEnd → Type 0
IsRootEnd m rows old new (Found lower upper) = IsRootValue m One old new lower × IsRootValue m Two old new upper
IsRootEnd m rows old new (Cut One) = IsRootCut m One old new
IsRootEnd m rows old new (Cut Two) = IsRootCut m Two old new × spent_on One old + 2 ≤ spent_on One new
IsRootEnd m rows old new Full = IsSearchable m × 1 ≤ left_on One old × (HasAtMost m rows → ⊥)
