-- What an induction comes to, and what a search by double oracle makes of it.
use Rattle.std.proofs.Common.{◌≡◌, ℕ, ◌+◌, ◌*◌, ◌<◌, ◌≤◌, ℤ, ◌-ℤ◌, ◌≤ℤ◌, ◌<ℤ◌, Bool, List, All, Contains, arith}
use Rattle.std.proofs.lemmas.Int.{ints}
use Rattle.std.proofs.lemmas.List.Elements.{All-contains, All-weaker}
use Rattle.sim_game.specs.declared.Side.{Side}
use Rattle.sim_game.specs.declared.Side.TheVariants.{One, Two}
use Rattle.sim_game.specs.Model.{GameModel}
use Rattle.sim_game.specs.Sides.{IsNoTighter}
use Rattle.plan_book.specs.declared.Sheet.{Sheet}
use Rattle.plan_book.specs.Serial.{serial_bound}
use Rattle.matrix_game.specs.Budget.{Budget}
use Rattle.fields.specs.declared.ask.Ask.{Ask}
use Rattle.fields.specs.declared.ask.SearchMethod.TheVariants.{Induction}
use Rattle.induction.specs.Undecided.{HasUndecided}
use Rattle.induction.specs.Spent.{HasSpentEach}
use Rattle.lazy_workers.specs.declared.summary.Found.{Found}
use Rattle.lazy_workers.specs.Findings.{found_gap, IsFoundPlan, IsIdle, IsGapWide, IsFoundGame, IsFoundFor}
use Rattle.lazy_workers.specs.declared.budgets.Begun.{Begun}
use Rattle.lazy_workers.specs.Keeping.{HasLimit, oracle_turns, AreBudgets, begun_whole}
use Rattle.lazy_workers.specs.Searched.{HasRoom, HasVisits, IsPureClose, TooFewAfter, TooFewTurns}
use Rattle.game_search.specs.declared.plan.Plan.{Plan}
use Rattle.game_search.specs.declared.plan.BothPlans.{BothPlans}
use Rattle.game_search.specs.Steps.{at_once, found_with, IsPureFound, AreFoundPlans, IsUnfinished}
use Rattle.game_search.proofs.PlanLemmas.{plan_for}

module _ {S : Type 0} (m : GameModel S) (ask : Ask) where
  -- ---- what is found without a turn
  module _ (may_stop : Bool) (x : Found) (pure : IsPureFound m ask may_stop x) where
    idle : IsIdle m (at_once ask) x
    idle = All-weaker (HasLimit (at_once ask) may_stop) (λ t. t.spent ≡ 0) (λ t h. let few = h.spent in let none = h.no_more in omega arith) x.turns pure.game.within

    pure_plan : (side : Side) (sheet : Sheet) (bound : ℤ) → IsFoundPlan m (at_once ask) may_stop (IsIdle m (at_once ask) x) side sheet bound
        → IsFoundPlan m ask may_stop (Unit {0}) side sheet bound
    pure_plan side sheet bound plan = record {
      side_is = plan.side_is;
      total_is = plan.total_is;
      lawful = plan.lawful;
      bound_is = plan.bound_is;
      guaranteed = plan.guaranteed;
      small = plan.small;
      few = plan.few;
      alone = λ _. plan.alone idle;
      pure = plan.pure;
    }

    pub pure_one : IsFoundPlan m ask may_stop (Unit {0}) One x.one x.lower
    pure_one = pure_plan One x.one x.lower pure.game.one

    pub pure_two : IsFoundPlan m ask may_stop (Unit {0}) Two x.two x.upper
    pure_two = pure_plan Two x.two x.upper pure.game.two

    -- bounds further apart than was asked are none that pure plans bring as close
    pub not_close : ask.gap <ℤ found_gap x → HasRoom m ask → HasVisits m ask may_stop → IsPureClose m ask → ⊥
    not_close far has many near =
        let low : serial_bound m One m.root ≤ℤ x.lower = pure.game.one.pure has many in
        let high : x.upper ≤ℤ serial_bound m Two m.root = pure.game.two.pure has many in
        absurd (omega (arith, ints, near, far))

    pub unspent_found : (turns : List Budget) → AreBudgets ask (begun_whole may_stop) turns → found_gap x ≤ℤ ask.gap → IsFoundGame m ask may_stop (record x { turns = turns })
    unspent_found turns budgets near = record {
      one = plan_for m ask may_stop (Unit {0}) (All (λ t. t.spent ≡ 0) turns) One x.one x.lower (λ _. tt) pure_one;
      two = plan_for m ask may_stop (Unit {0}) (All (λ t. t.spent ≡ 0) turns) Two x.two x.upper (λ _. tt) pure_two;
      resolution = pure.game.resolution;
      resolution_high = pure.game.resolution_high;
      workers = budgets.count;
      within = budgets.each;
      at_once = λ _ _ _. budgets.begun;
      full = pure.game.full;
      spent = λ _ wide. let far = wide.asked in absurd (omega (arith, ints, near));
    }

    -- ---- plans that are close enough
    pub proposed_found : (plans : BothPlans) (spent : ℕ) (turns : List Budget) (first : Budget) → ask.gap <ℤ found_gap x → AreFoundPlans m ask may_stop (spent ≡ 0) plans
        → AreBudgets ask (record { spent = spent; may_stop = may_stop }) turns → Contains turns first → first.spent ≡ spent
        → (IsGapWide ask (found_with plans x.resolution turns) → ⊥) → IsFoundGame m ask may_stop (found_with plans x.resolution turns)
    proposed_found plans spent turns first far are budgets has is close = record {
      one = plan_for m ask may_stop (spent ≡ 0) (All (λ t. t.spent ≡ 0) turns) One plans.one.sheet plans.one.bound none are.one;
      two = plan_for m ask may_stop (spent ≡ 0) (All (λ t. t.spent ≡ 0) turns) Two plans.two.sheet plans.two.bound none are.two;
      resolution = pure.game.resolution;
      resolution_high = pure.game.resolution_high;
      workers = budgets.count;
      within = budgets.each;
      at_once = λ room many near. absurd (not_close far room many near);
      full = λ was. absurd (cc);
      spent = λ _ wide. absurd (close wide);
    } where
      none : All (λ t. t.spent ≡ 0) turns → spent ≡ 0
      none each = let here = All-contains (λ (t : Budget). t.spent ≡ 0) turns first each has in omega (arith, here, is)

    -- ---- plans that are left
    pub proposed_left : (plans : BothPlans) (spent most : ℕ) (old new : Budget) → ask.gap <ℤ found_gap x → AreFoundPlans m ask may_stop (spent ≡ 0) plans → HasSpentEach m 3 old new
        → old.spent ≡ 0 → most ≡ new.spent → IsUnfinished m ask may_stop plans most
    proposed_left plans spent most old new far are each start is = record {
      plans_are = record {
        one = plan_for m ask may_stop (spent ≡ 0) ⊥ One plans.one.sheet plans.one.bound (λ none. absurd none) are.one;
        two = plan_for m ask may_stop (spent ≡ 0) ⊥ Two plans.two.sheet plans.two.bound (λ none. absurd none) are.two;
      };
      not_close = not_close far;
      count = each.count;
      undecided = each.undecided;
      few = let few = each.few in omega (arith, start, is);
    }

  -- ---- double oracle after an induction
  few_after : (turns most count n rank asked : ℕ) → count ≤ n → most ≤ 3 * count → asked < most + turns * (n + rank + 1) → asked < (3 + turns) * (n + rank + 1)
  few_after turns most count n rank asked inside few less = omega (arith, less, inside, few)

  -- too few turns for what the induction has left are too few by induction
  few_turns : (most count : ℕ) → HasUndecided m count → most ≤ 3 * count → ask.search ≡ Induction → TooFewAfter most m ask → TooFewTurns m ask
  few_turns most count undecided each search few n has rows =
      let inside : count ≤ n = has.few count undecided.states undecided.reachable undecided.apart in
      let less = few n has rows in
      rw search (few_after (oracle_turns m ask.stages) most count n (m.rank m.root) ask.turns inside each less)

  pub bettered_found : (plans : BothPlans) (begun : Begun) (x : Found) (one two : Plan) → ask.search ≡ Induction → IsUnfinished m ask begun.may_stop plans begun.spent → IsFoundFor m ask begun x
      → IsFoundPlan m ask begun.may_stop (IsIdle m ask x) One one.sheet one.bound → IsFoundPlan m ask begun.may_stop (IsIdle m ask x) Two two.sheet two.bound
      → IsNoTighter One x.lower one.bound → IsNoTighter Two x.upper two.bound
      → IsFoundGame m ask begun.may_stop (record x { lower = one.bound; upper = two.bound; one = one.sheet; two = two.sheet })
  bettered_found plans begun x one two search left found is_one is_two low high = record {
    one = is_one;
    two = is_two;
    resolution = found.game.resolution;
    resolution_high = found.game.resolution_high;
    workers = found.game.workers;
    within = found.game.within;
    at_once = λ has many near. absurd (left.not_close has many near);
    full = found.game.full;
    spent = λ free wide.
        let rest = found.game.spent free (wider wide.asked wide.resolution) in
        record { all = rest.all; too_few = λ all. few_turns begun.spent left.count left.undecided left.few search (rest.too_few all) };
  } where
    wider : ask.gap <ℤ (two.bound -ℤ one.bound) → x.resolution <ℤ (two.bound -ℤ one.bound) → IsGapWide ask x
    wider asked above = record { asked = omega (arith, ints, low, high, asked); resolution = omega (arith, ints, low, high, above) }

  -- a plan of the induction, where the search by double oracle was not idle
  pub left_plan : (may_stop : Bool) (x : Found) (side : Side) (plan : Plan) → (IsIdle m ask x → ⊥) → IsFoundPlan m ask may_stop ⊥ side plan.sheet plan.bound
      → IsFoundPlan m ask may_stop (IsIdle m ask x) side plan.sheet plan.bound
  left_plan may_stop x side plan busy is = plan_for m ask may_stop ⊥ (IsIdle m ask x) side plan.sheet plan.bound busy is
