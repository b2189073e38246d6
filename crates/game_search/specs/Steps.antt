-- What an induction comes to.
use Rattle.std.specs.Prelude.{◌≡◌, ℕ, ◌*◌, ◌≤◌, ℤ, Bool, false, List, [], Option, Result}
use Rattle.sim_game.specs.declared.Side.TheVariants.{One, Two}
use Rattle.sim_game.specs.declared.NoMemory.{NoMemory}
use Rattle.sim_game.specs.Model.{GameModel}
use Rattle.fields.specs.declared.ask.Ask.{Ask}
use Rattle.matrix_game.specs.Budget.{Budget}
use Rattle.induction.specs.declared.induced.Induced.{Induced}
use Rattle.induction.specs.Induced.{IsInductionResult}
use Rattle.induction.specs.Undecided.{HasUndecided}
use Rattle.lazy_workers.specs.declared.summary.Found.{Found}
use Rattle.lazy_workers.specs.Findings.{IsFoundPlan, IsFoundGame, IsFoundFor}
use Rattle.lazy_workers.specs.Keeping.{AreBudgets, begun_whole}
use Rattle.lazy_workers.specs.Searched.{HasRoom, HasVisits, IsPureClose}
use Rattle.game_search.specs.declared.plan.BothPlans.{BothPlans}
use Rattle.game_search.specs.declared.step.Step.{Step}
use Rattle.game_search.specs.declared.step.Step.TheVariants as steps

-- what is found by plans alone, on no board
abbrev pub found_with : BothPlans → ℤ → List Budget → Found
found_with plans resolution turns = record {
  lower = plans.one.bound;
  upper = plans.two.bound;
  resolution = resolution;
  one = plans.one.sheet;
  two = plans.two.sheet;
  turns = turns;
  kept = [];
  was_full = false;
}

-- all the turns asked, none of them spent
abbrev pub whole_budget : Ask → Bool → Budget
whole_budget ask may_stop = record { limit = ask.turns; spent = 0; may_stop = may_stop }

abbrev pub IsWhole : Ask → Bool → Budget → Type 0
IsWhole ask may_stop turns = turns ≡ whole_budget ask may_stop

-- the same, asked of one worker without a turn
abbrev pub at_once : Ask → Ask
at_once ask = record ask { turns = 0; workers = 1 }

module _ {S : Type 0} (m : GameModel S) (ask : Ask) (may_stop : Bool) where
  -- what is found without a turn
  abbrev pub IsPureFound : Found → Type 0
  IsPureFound x = IsFoundFor m (at_once ask) (begun_whole may_stop) x

  -- a plan of each side, which play one move at each state where the search was idle
  pub record AreFoundPlans (Idle : Type 0) (plans : BothPlans) : Type 0 where
    pub one : IsFoundPlan m ask may_stop Idle One plans.one.sheet plans.one.bound
    pub two : IsFoundPlan m ask may_stop Idle Two plans.two.sheet plans.two.bound

  -- plans to be bettered, after no more turns of a worker than three for each undecided state; pure plans alone do not
  -- bring the bounds as close as was asked
  pub record IsUnfinished (plans : BothPlans) (most : ℕ) : Type 0 where
    pub plans_are : AreFoundPlans ⊥ plans
    pub not_close : HasRoom m ask → HasVisits m ask may_stop → IsPureClose m ask → ⊥
    pub count : ℕ
    pub undecided : HasUndecided m count
    pub few : most ≤ 3 * count

  -- an induction's result, and its turns, none of which was spent before
  abbrev pub IsSolvedFor : Result (Option Induced) NoMemory × Budget → Type 0
  IsSolvedFor (found, turns) = IsInductionResult m ask.weight ask.rows (whole_budget ask may_stop) turns found

  -- what makes an induction with the turns asked
  pub record IsSolver (pre : Budget → Type 0) (post : Budget → Result (Option Induced) NoMemory × Budget → Type 0) : Type 0 where
    pub may_solve : pre (whole_budget ask may_stop)
    pub solves : (result : Result (Option Induced) NoMemory × Budget) → post (whole_budget ask may_stop) result → IsSolvedFor result

  -- what is found, or plans to be bettered with the turns that are left
  abbrev pub IsStepOf : Step → Type 0
  IsStepOf (steps.Found x) = IsFoundGame m ask may_stop x
  IsStepOf (steps.Left l) = IsUnfinished l.plans l.budgets.begun.spent
      × AreBudgets ask l.budgets.begun l.budgets.turns.items × (l.budgets.begun.may_stop ≡ may_stop)
