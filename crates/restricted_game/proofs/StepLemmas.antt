-- What a plan proves at the state: its entry, and a side's part of the step.
use Rattle.std.proofs.Common.{◌≡◌, inl, ℕ, ◌<◌, ◌≤◌, ℤ, pos, ◌*ℤ◌, Option, Some, List, sum, get_or, slice_index, refl, sym, ap, subst, ◌∙◌, arith}
use Rattle.sums.specs.Sums.{count_below}
use Rattle.sums.proofs.CountLemmas.{count_list}
use Rattle.sums.proofs.SumLemmas.{sum_weights}
use Rattle.sim_game.specs.declared.Side.{Side}
use Rattle.sim_game.specs.declared.Side.TheVariants.{One, Two}
use Rattle.sim_game.specs.Model.{GameModel, IsGame, Reachable}
use Rattle.sim_game.specs.Sides.{other_side, IsNoTighter, state_bound, draws_of, chance_of, after_reward}
use Rattle.sim_game.proofs.SideLemmas.{looser_left, looser_right, looser_trans, looser_weighted, looser_sum, looser_quotient, quotient_tightest, side_turn}
use Rattle.plan_book.specs.declared.Entry.{Entry}
use Rattle.plan_book.specs.Backed.{by_step}
use Rattle.plan_book.specs.Steps.{IsStep}
use Rattle.plan_book.proofs.BackedLemmas.{backed_within}
use Rattle.plan_book.proofs.GuaranteeLemmas.{chances}
use Rattle.bounds_board.specs.Views.{BoardView, IsLater, IsPostable, known_bound}
use Rattle.bounds_board.proofs.ViewLemmas.{later_refl}
use Rattle.matrix_game.specs.declared.solver.StageSolver.{StageSolver}
use Rattle.restricted_game.specs.declared.plans.Plans.{Plans}
use Rattle.restricted_game.specs.declared.table.StageTable.{StageTable}
use Rattle.restricted_game.specs.Numbers.{IsReadNumber, IsWanted}
use Rattle.restricted_game.specs.Runs.{IsPlan, IsSideRun, IsPosted, IsStepRun, entry_at}
use Rattle.restricted_game.specs.Tables.{IsFilled, ArePlans, ArePosted, numbers_in, side_entry}
use Rattle.restricted_game.proofs.CellLemmas.{mean_from}
use Rattle.restricted_game.proofs.PlanLemmas.{spread_total}
use Rattle.restricted_game.proofs.PostLemmas.{posted_earlier}
use Rattle.restricted_game.proofs.ReadLemmas.{number_between, number_seen, turn_low}
use Rattle.restricted_game.proofs.TableLemmas.{one_read, two_read}

in_range : {S : Type 0} (m : GameModel S) (s : S) (side : Side) (x : ℤ) → IsNoTighter side (state_bound m side s) x
    → IsNoTighter side x (state_bound m (other_side side) s) → IsNoTighter One (state_bound m One s) x × IsNoTighter Two (state_bound m Two s) x
in_range m s One x p q = (p, q)
in_range m s Two x p q = (q, p)

module _ {S G N : Type 0} (m : GameModel S) (game : IsGame m) (s : S) (reach : Reachable m s) (goes_on : 1 ≤ m.rank s) (u v : BoardView G N)
    (side : Side) (total : ℕ) (some : 1 ≤ total) (own others weights : List ℕ) (all : sum weights ≡ total)
    (numbers : ℕ → ℕ → ℕ → ℤ) (plan : List ℕ) (bound : ℤ) (fresh : Option ℕ) (planned : IsPlan m side s total own others weights numbers plan bound fresh)
    (read : (move other draw : ℕ) → move < m.moves side s → other < m.moves (other_side side) s → IsWanted own others move other → draw < draws_of m side s move other
    → after_reward m side s move other draw (IsReadNumber m u v side) (numbers move other draw)) where
  plan_sums : sum plan ≡ total
  plan_sums = spread_total (m.moves side s) total own weights plan planned.spread all

  -- a move of positive weight is held
  weighted_read : (move other draw : ℕ) → move < m.moves side s → other < m.moves (other_side side) s → draw < draws_of m side s move other
      → 1 ≤ slice_index plan move → after_reward m side s move other draw (IsReadNumber m u v side) (numbers move other draw)
  weighted_read move other draw p q t w = read move other draw p q (inl (planned.spread.elsewhere move w)) t

  -- the bound is what the plan proves against each reply
  plan_step : IsStep m side s total plan numbers bound
  plan_step = record {
    goes_on = goes_on;
    one_each = planned.spread.each;
    sums = plan_sums;
    some = some;
    proves = λ reply q. looser_trans side _ planned.sum _
        (looser_left side _ _ _ (ap (λ (z : ℤ). pos total *ℤ z) (sym planned.bound_is)) (looser_quotient side total planned.sum some))
        (planned.is_best.least reply q);
  }

  -- it is no looser than what holds of every value of the state
  bound_low : IsNoTighter side (state_bound m side s) bound
  bound_low =
      let weights_are : count_below (m.moves side s) (slice_index plan) ≡ total = ap (λ (n : ℕ). count_below n (λ i. get_or plan i 0)) (sym planned.spread.each) ∙ count_list plan ∙ plan_sums in
      looser_right side _ _ _ (sym planned.bound_is) (quotient_tightest side total planned.sum (state_bound m side s) some
      (looser_left side _ _ _ (sum_weights (m.moves side s) (slice_index plan) (state_bound m side s) ∙ ap (λ (n : ℕ). pos n *ℤ state_bound m side s) weights_are)
      (looser_right side _ _ _ (sym planned.is_best.worth)
      (looser_sum side (m.moves side s) _ _ (λ move p. looser_weighted side (slice_index plan move) _ _ (λ w.
      mean_from side (draws_of m side s move planned.reply) (chance_of m side s move planned.reply)
      (chances m game side s move planned.reply reach p planned.is_best.place_in) (numbers move planned.reply) (state_bound m side s)
      (λ d t. turn_low m u v side side s move planned.reply d (numbers move planned.reply d) game reach (side_turn m side s move planned.reply d p planned.is_best.place_in t)
      (weighted_read move planned.reply d p planned.is_best.place_in t w))))))))

  bound_high : IsNoTighter side bound (state_bound m (other_side side) s)
  bound_high = backed_within m game side s bound reach (by_step s bound total plan numbers plan_step (λ move other draw p q t w. (weighted_read move other draw p q t w).backed))

  pub plan_postable : v.total ≡ total → IsPostable m v (entry_at m side s bound plan)
  plan_postable is_total = let range = in_range m s side bound bound_low bound_high in record {
    state = s;
    reachable = reach;
    is_key = refl;
    low = range.0;
    high = range.1;
    numbers = numbers;
    step = subst (λ (n : ℕ). IsStep m side s n plan numbers bound) (sym is_total) plan_step;
    backed = λ move other draw p q t w. (weighted_read move other draw p q t w).backed;
    known = λ move other draw p q t w. number_seen m u v side _ _ (weighted_read move other draw p q t w);
  }

  abbrev side_run : (w : BoardView G N) → IsLater v w → IsNoTighter side bound (known_bound m w side s) → IsSideRun m u w side s total own others weights bound fresh
  side_run w later known = record {
    numbers = numbers;
    read = λ move other draw p q k l. number_between m u u v w side _ _ (later_refl u) later (read move other draw p q k l);
    plan = plan;
    planned = planned;
    known = known;
  }

-- ---- both sides
module _ {S G N : Type 0} (m : GameModel S) (game : IsGame m) (s : S) (reach : Reachable m s)
    (goes_on : 1 ≤ m.rank s) {u v : BoardView G N} {total : ℕ} (is_total : total ≡ u.total) (low : 8192 ≤ total) {solver : StageSolver} {rows cols : List ℕ} {table : StageTable} {plans : Plans}
    (read : IsLater u v) (filled : IsFilled m u v s rows cols table) (are_plans : ArePlans m solver s total rows cols table plans) where
  some : 1 ≤ u.total
  some = omega (arith, low, is_total)

  planned : ArePlans m solver s u.total rows cols table plans
  planned = subst (λ (n : ℕ). ArePlans m solver s n rows cols table plans) is_total are_plans

  pub one_postable : IsPostable m v (side_entry m One s plans.one)
  one_postable =
      plan_postable m game s reach goes_on u v One u.total some rows cols planned.row_weights planned.stage.rows.all
      (numbers_in One table) plans.one.weights.items plans.one.bound plans.one.fresh planned.one
      (one_read m u v s rows cols table filled) read.total

  pub two_postable : IsPostable m v (side_entry m Two s plans.two)
  two_postable =
      plan_postable m game s reach goes_on u v Two u.total some cols rows planned.col_weights planned.stage.cols.all
      (numbers_in Two table) plans.two.weights.items plans.two.bound plans.two.fresh planned.two
      (two_read m u v s rows cols table filled) read.total

  pub step_run : {w : BoardView G N} {row : ℕ} → IsLater v w → v.entries ≡ u.entries → v.key_at row ≡ Some (m.key s) → ArePosted m v w s plans
      → IsStepRun m u w solver s rows cols plans.two.fresh plans.one.fresh plans.one.bound plans.two.bound
  step_run {w} {row} after quiet holds posted = record {
    claimed = record { row = row; holds = after.keys row _ holds };
    grid = planned.grid;
    row_weights = planned.row_weights;
    col_weights = planned.col_weights;
    stage = planned.stage;
    one = side_run m game s reach goes_on u v One u.total some rows cols planned.row_weights planned.stage.rows.all
        (numbers_in One table) plans.one.weights.items plans.one.bound plans.one.fresh planned.one
        (one_read m u v s rows cols table filled) w after posted.one_known;
    two = side_run m game s reach goes_on u v Two u.total some cols rows planned.col_weights planned.stage.cols.all
        (numbers_in Two table) plans.two.weights.items plans.two.bound plans.two.fresh planned.two
        (two_read m u v s rows cols table filled) w after posted.two_known;
    is_grid = planned.is_grid;
    between = posted.between;
    one_posted = subst (λ (l : List Entry). IsPosted u (side_entry m One s plans.one) l posted.between) quiet (posted_earlier u v _ _ _ read posted.one_posted);
    two_posted = posted_earlier u v _ _ _ read posted.two_posted;
  }
