-- BothPlans of lawful sheets.
use Rattle.std.proofs.Common.{◌≡◌, ℕ, ◌≤◌, ℤ, Bool, Some, length, sym, subst, ◌∙◌, arith}
use Rattle.std.specs.Int.RustNames.{unsigned_abs}
use Rattle.sim_game.specs.declared.Side.{Side}
use Rattle.sim_game.specs.Model.{GameModel, IsGame, Reachable}
use Rattle.sim_game.specs.Sides.{IsNoTighter}
use Rattle.sim_game.proofs.ReachLemmas.{reachable_root}
use Rattle.sim_game.proofs.SideLemmas.{looser_trans}
use Rattle.plan_book.specs.declared.Sheet.{Sheet}
use Rattle.plan_book.specs.declared.SheetRow.{SheetRow}
use Rattle.plan_book.specs.Expected.{Guarantees}
use Rattle.plan_book.specs.Serial.{serial_bound}
use Rattle.plan_book.specs.Sheets.{row_at, IsLawful, IsLawfulRow, plan_of, root_bound}
use Rattle.plan_book.proofs.SheetLemmas.{found, reached_reachable, sheet_guarantees}
use Rattle.fields.specs.declared.ask.Ask.{Ask}
use Rattle.fields.specs.Ranges.{IsAskInRange}
use Rattle.induction.specs.Certified.{IsWithinState}
use Rattle.induction.specs.Induced.{IsSheetOf}
use Rattle.induction.proofs.BoundLemmas.{or_within, from_least, to_most}
use Rattle.lazy_workers.specs.Findings.{IsFoundPlan}
use Rattle.lazy_workers.proofs.SummaryLemmas.{abs_small, scaled_low, scaled_high}
use Rattle.game_search.specs.declared.plan.Plan.{Plan}

module _ {S : Type 0} (m : GameModel S) (game : IsGame m) where
  -- the bound of a lawful sheet at the root lies in the range of the root
  root_within : (sheet : Sheet) → IsLawful m sheet → IsWithinState m m.root (root_bound m sheet)
  root_within sheet lawful = or_within m game sheet.side m.root (row_at sheet.rows (m.key m.root)) root within where
    root : Reachable m m.root
    root = reachable_root m

    within : (row : SheetRow) → row_at sheet.rows (m.key m.root) ≡ Some row → IsWithinState m m.root row.bound
    within row e =
        let here = found (IsLawfulRow m sheet.side sheet.total sheet.rows) sheet.rows (m.key m.root) row lawful.rows e in
        let same : here.0.state ≡ m.root = game.same_key here.0.state m.root (reached_reachable m sheet.side (row_at sheet.rows) here.0.state here.0.reached) root
        (here.0.is_key ∙ here.1) in
        subst (λ (s : S). IsWithinState m s row.bound) same (record { low = here.0.low; high = here.0.high })

  root_small : (sheet : Sheet) → IsLawful m sheet → unsigned_abs (root_bound m sheet) ≤ 4000000000
  root_small sheet lawful =
      let within = root_within sheet lawful in let root = reachable_root m in
      abs_small (root_bound m sheet) (scaled_low m game (root_bound m sheet) (from_least m game m.root (root_bound m sheet) root within))
      (scaled_high m game (root_bound m sheet) (to_most m game m.root (root_bound m sheet) root within))

  -- a sheet that takes the place of a plan whose bound is no tighter, with turns spent and few enough rows
  pub sheet_plan : (ask : Ask) (may_stop : Bool) (side : Side) (spent : ℕ) (held : Plan) (sheet : Sheet) (bound : ℤ) → IsAskInRange ask
      → IsFoundPlan m ask may_stop (Unit {0}) side held.sheet held.bound → IsSheetOf m side ask.weight sheet → bound ≡ root_bound m sheet
      → (spent ≡ 0 → ⊥) → length sheet.rows ≤ ask.rows → IsNoTighter side held.bound bound → IsFoundPlan m ask may_stop (spent ≡ 0) side sheet bound
  sheet_plan ask may_stop side spent held sheet bound asks plan of at some few tighter = record {
    side_is = of.is_side;
    total_is = of.is_total;
    lawful = of.lawful;
    bound_is = at;
    guaranteed = subst (λ (of : Side). Guarantees m of (plan_of sheet) bound) of.is_side
        (subst (Guarantees m sheet.side (plan_of sheet)) (sym at) (sheet_guarantees m game sheet of.lawful (omega (arith, of.is_total, asks.weight.0))));
    small = subst (λ (z : ℤ). unsigned_abs z ≤ 4000000000) (sym at) (root_small sheet of.lawful);
    few = few;
    alone = λ none. absurd (some none);
    pure = λ has many. looser_trans side (serial_bound m side m.root) held.bound bound (plan.pure has many) tighter;
  }

-- a plan is good for a narrower meaning of being idle
pub plan_for : {S : Type 0} (m : GameModel S) (ask : Ask) (may_stop : Bool) (Idle Other : Type 0) (side : Side) (sheet : Sheet) (bound : ℤ) → (Other → Idle)
    → IsFoundPlan m ask may_stop Idle side sheet bound → IsFoundPlan m ask may_stop Other side sheet bound
plan_for m ask may_stop Idle Other side sheet bound so plan = record {
  side_is = plan.side_is;
  total_is = plan.total_is;
  lawful = plan.lawful;
  bound_is = plan.bound_is;
  guaranteed = plan.guaranteed;
  small = plan.small;
  few = plan.few;
  alone = λ idle. plan.alone (so idle);
  pure = plan.pure;
}
