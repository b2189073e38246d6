-- A step over numbers that were read since an earlier view.
use Rattle.std.proofs.Common.{◌≡◌, inr, ℕ, ◌≤◌, ℤ, Option, None, Some, Result, List, refl, sym, ap, subst, ◌∙◌, arith}
use Rattle.std.specs.Prelude.{OnOk}
use Rattle.sim_game.specs.declared.Side.{Side}
use Rattle.sim_game.specs.declared.Side.TheVariants.{One, Two}
use Rattle.sim_game.specs.Model.{GameModel, IsGame, Reachable}
use Rattle.sim_game.specs.Resolution.{IsFineWeight}
use Rattle.plan_book.specs.declared.Entry.{Entry}
use Rattle.bounds_board.specs.Views.{BoardView, IsLater, IsPostable}
use Rattle.bounds_board.proofs.ViewLemmas.{later_refl, later_trans}
use Rattle.matrix_game.specs.Budget.{Budget, after_one_turn}
use Rattle.matrix_game.specs.declared.solver.StageSolver.{StageSolver}
use Rattle.restricted_game.specs.declared.held.StepEnd.{StepEnd}
use Rattle.restricted_game.specs.declared.held.StepEnd.TheVariants.{Done}
use Rattle.restricted_game.specs.declared.plans.Plans.{Plans}
use Rattle.restricted_game.specs.declared.table.StageNumbers.{StageNumbers}
use Rattle.restricted_game.specs.Gaps.{HasStepGap}
use Rattle.restricted_game.specs.Held.{HeldMoves, IsHolding}
use Rattle.restricted_game.specs.Numbers.{IsReadNumber}
use Rattle.restricted_game.specs.Runs.{IsStepRun}
use Rattle.restricted_game.specs.Stages.{AreStageNumbers, WereStageNumbers}
use Rattle.restricted_game.specs.Tables.{ArePlans, ArePosted, side_entry}
use Rattle.restricted_game.specs.Turns.{TakesTurnOver}
use Rattle.restricted_game.proofs.EndLemmas.{end_gap}
use Rattle.restricted_game.proofs.ReadLemmas.{turn_between}
use Rattle.restricted_game.proofs.StepLemmas.{one_postable, two_postable, step_run}

-- ---- the same numbers, as if nothing had been posted since
abbrev with_entries : {G N : Type 0} → BoardView G N → List Entry → BoardView G N
with_entries u entries = record u { entries = entries }

number_with : {S G N : Type 0} (m : GameModel S) (u v : BoardView G N) (entries : List Entry) (side : Side) (s : S) (x : ℤ)
    → IsReadNumber m u v side s x → IsReadNumber m (with_entries u entries) v side s x
number_with m u v entries side s x r = record {
  backed = r.backed;
  low = r.low;
  high = r.high;
  at_end = r.at_end;
  claimed = r.claimed;
  no_looser = r.no_looser;
  no_tighter = r.no_tighter;
}

numbers_with : {S G N : Type 0} (m : GameModel S) (u v : BoardView G N) (entries : List Entry) (s : S) (h : HeldMoves) (numbers : StageNumbers)
    → AreStageNumbers m u v s h numbers → AreStageNumbers m (with_entries u entries) v s h numbers
numbers_with m u v entries s h numbers are = record {
  later = record { name = are.later.name; game = are.later.game; total = are.later.total; rows = are.later.rows; keys = are.later.keys; seen = are.later.seen };
  filled = record { read = λ one two draw p q w r. record { number = λ side. number_with m u v entries side _ _ ((are.filled.read one two draw p q w r).number side) } };
  cells = are.cells;
}

-- numbers that were read since an earlier view were read since it at a later one too
pub numbers_later : {S G N : Type 0} (m : GameModel S) (u v w : BoardView G N) (s : S) (h : HeldMoves) (numbers : StageNumbers) → IsLater v w
    → AreStageNumbers m u v s h numbers → AreStageNumbers m u w s h numbers
numbers_later m u v w s h numbers after are = record {
  later = later_trans u v w are.later after;
  filled = record { read = λ one two draw p q k t. turn_between m u u v w _ _ _ _ _ (later_refl u) after (are.filled.read one two draw p q k t) };
  cells = are.cells;
}

-- ---- plans over them
module _ {S G N : Type 0} (m : GameModel S) (game : IsGame m) (s : S) (reach : Reachable m s) (goes_on : 1 ≤ m.rank s) (v : BoardView G N) (total : ℕ)
    (is_total : total ≡ v.total) (low : 8192 ≤ total) {solver : StageSolver} (h : HeldMoves) (numbers : StageNumbers) (plans : Plans)
    (planned : ArePlans m solver s total h.rows h.cols numbers.table plans) where
  pub over_postable_one : WereStageNumbers m v s h numbers → IsPostable m v (side_entry m One s plans.one)
  over_postable_one were = one_postable m game s reach goes_on (is_total ∙ were.are.later.total) low were.are.later were.are.filled planned

  pub over_postable_two : WereStageNumbers m v s h numbers → IsPostable m v (side_entry m Two s plans.two)
  over_postable_two were = two_postable m game s reach goes_on (is_total ∙ were.are.later.total) low were.are.later were.are.filled planned

  module _ (w : BoardView G N) (row : ℕ) (after : IsLater v w) (holds : v.key_at row ≡ Some (m.key s)) (posted : ArePosted m v w s plans)
      (u : BoardView G N) (are : AreStageNumbers m u v s h numbers) where
    pub over_run : v.entries ≡ u.entries → IsStepRun m u w solver s h.rows h.cols plans.two.fresh plans.one.fresh plans.one.bound plans.two.bound
    over_run quiet = step_run m game s reach goes_on (is_total ∙ are.later.total) low are.later are.filled planned after quiet holds posted

  module _ (w : BoardView G N) (row : ℕ) (after : IsLater v w) (holds : v.key_at row ≡ Some (m.key s)) (posted : ArePosted m v w s plans)
      (u : BoardView G N) (are : AreStageNumbers m u v s h numbers) (holding : IsHolding h) (rows : h.most_rows ≡ m.moves One s) (cols : h.most_cols ≡ m.moves Two s)
      (fine : IsFineWeight m total) where
    pub over_gap : plans.two.fresh ≡ None → plans.one.fresh ≡ None → HasStepGap m u w s h (Done plans.one.bound plans.two.bound)
    over_gap no_row no_col gap stage close is_gap =
        let quiet_u = with_entries u v.entries in
        let run = over_run w row after holds posted quiet_u (numbers_with m u v v.entries s h numbers are) refl in
        let done = subst (λ (k : Option ℕ). IsStepRun m quiet_u w solver s h.rows h.cols None k plans.one.bound plans.two.bound) no_col
        (subst (λ (k : Option ℕ). IsStepRun m quiet_u w solver s h.rows h.cols k plans.one.fresh plans.one.bound plans.two.bound) no_row run) in
        let enough : IsFineWeight m u.total = subst (IsFineWeight m) (is_total ∙ are.later.total) fine in
        end_gap m game quiet_u w s reach h h refl holding rows cols enough plans.one.bound plans.two.bound done gap stage (record { close = close.close }) is_gap

-- a turn that was taken
pub turn_over_taken : {G N F : Type 0} (old new : Budget) (u v : BoardView G N) (result : Result StepEnd F) → OnOk result (new ≡ after_one_turn old) → new ≡ after_one_turn old
    → TakesTurnOver old new u v result
turn_over_taken old new u v result ok taken = record {
  ok = ok;
  at_most_one = inr taken;
  unposted = λ same. let more = ap (λ (t : Budget). t.spent) (sym taken ∙ same) in absurd (omega arith);
}
