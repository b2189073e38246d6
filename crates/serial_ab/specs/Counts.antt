-- Visits of a search, counted for each side by itself.
use Rattle.std.specs.Prelude.{◌≡◌, ℕ, ◌+◌, ◌-◌, ◌<◌, ◌≤◌, Bool, false}
use Rattle.sim_game.specs.declared.Side.{Side}
use Rattle.sim_game.specs.declared.Side.TheVariants.{One, Two}
use Rattle.sim_game.specs.Sides.{other_side}

-- how many visits a side may have, and how many each has had
pub record VisitsView : Type 0 where
  pub limit : ℕ
  pub one : ℕ
  pub two : ℕ

abbrev pub spent_on : Side → VisitsView → ℕ
spent_on One v = v.one
spent_on Two v = v.two

abbrev pub left_on : Side → VisitsView → ℕ
left_on side v = v.limit - spent_on side v

-- at most so many visits were counted, on the side alone
pub record Counts (side : Side) (most : ℕ) (old new : VisitsView) : Type 0 where
  pub limit : new.limit ≡ old.limit
  pub other : spent_on (other_side side) new ≡ spent_on (other_side side) old
  pub rises : spent_on side old ≤ spent_on side new
  pub few : spent_on side new ≤ spent_on side old + most

-- no visit is left, and there were fewer than so many
pub record IsCut (side : Side) (need : ℕ) (old new : VisitsView) : Type 0 where
  pub none_left : left_on side new ≡ 0
  pub too_few : left_on side old < need

-- the search was cut for want of visits, unless it may be stopped
abbrev pub WasCut : Bool → Side → ℕ → VisitsView → VisitsView → Type 0
WasCut may_stop side need old new = may_stop ≡ false → IsCut side need old new

-- visits were counted, with the same limit
pub record HasCounted (old new : VisitsView) : Type 0 where
  pub limit : new.limit ≡ old.limit
  pub rises : (side : Side) → spent_on side old ≤ spent_on side new
