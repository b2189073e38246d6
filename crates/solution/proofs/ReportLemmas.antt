-- That the report of what was found is a solution.
use Rattle.std.proofs.Common.{◌≡◌, ℕ, ◌<◌, ◌≤◌, ℤ, ◌-ℤ◌, ◌≤ℤ◌, Bool, true, false, List, [], ◌∷◌, length, All, w64, SFits, to_z, of_z, refl, sym, subst, ◌∙◌, arith}
use Rattle.std.specs.Prelude.{MatchBool}
use Rattle.std.specs.List.{AllByRecursion}
use Rattle.std.proofs.lemmas.Int.{ints, to_z-of_z}
use Rattle.std.proofs.lemmas.List.{length-map}
use Rattle.std.proofs.lemmas.List.Elements.{All-from_recursion, All-map, All-weaker, recursion_from_All}
use Rattle.sim_game.specs.declared.Side.{Side}
use Rattle.sim_game.specs.declared.Side.TheVariants.{One, Two}
use Rattle.sim_game.specs.Model.{GameModel, IsGame}
use Rattle.plan_book.specs.declared.Sheet.{Sheet}
use Rattle.fields.specs.declared.ask.Ask.{Ask}
use Rattle.certificate.specs.declared.report.Outcome.{Outcome}
use Rattle.certificate.specs.declared.report.Outcome.TheVariants.{Closed, Spent, Full, Stopped}
use Rattle.fields.specs.declared.positions.PositionText.{PositionText}
use Rattle.certificate.specs.declared.report.Report.{Report}
use Rattle.certificate.specs.Outcomes.{Allows}
use Rattle.fields.specs.Ranges.{Within, IsAskInRange, IsPositionInRange}
use Rattle.certificate.specs.Versions.{limits_of, is_long, needs_newest, version_of}
use Rattle.certificate.specs.Ranges.{IsSheetInRange, IsInRange}
use Rattle.matrix_game.specs.Budget.{Budget}
use Rattle.lazy_workers.specs.declared.summary.Found.{Found}
use Rattle.lazy_workers.specs.Findings.{found_gap, IsFoundPlan, IsIdle, IsFoundGame, IsFoundFor}
use Rattle.lazy_workers.specs.Keeping.{HasLimit, AreAllSpent, AreOwed, begun_whole}
use Rattle.lazy_workers.specs.Searched.{HasRoom, TooFewTurns}
use Rattle.lazy_workers.proofs.FoundLemmas.{found_game}
use Rattle.solution.specs.declared.report.Solved.{Solved}
use Rattle.solution.specs.Outcomes.{HasGap, IsOutcomeFor}
use Rattle.solution.specs.Solutions.{spent_of, HasWidthOf, report_with, IsReportOf, IsSolution, IsSolvedGame}
use Rattle.solution.proofs.RangeLemmas.{rows_in, moves_in, short_one, short_two, sheet_in_range}

-- ---- which outcome it is, by a flag and by what the flag says
pub spent_or : (flag : Bool) (P : Type 0) → MatchBool flag P (P → ⊥) → (flag ≡ true → P) × ((flag ≡ true → ⊥) → P → ⊥)
spent_or true P h = (λ _. h, λ not. absurd (not refl))
spent_or false P h = (λ e. absurd (cc), λ _. h)

pub outcome_by : (gap asked resolution : ℤ) (was_full : Bool) (A B : Type 0) → (A → B) → ((A → ⊥) → B → ⊥) → (o : Outcome)
    → IsOutcomeFor gap asked resolution was_full A o → IsOutcomeFor gap asked resolution was_full B o
outcome_by gap asked resolution was_full A B up down Spent e = (e.0, e.1, e.2, up e.3)
outcome_by gap asked resolution was_full A B up down Stopped e = (e.0, e.1, e.2, down e.3)
outcome_by gap asked resolution was_full A B up down o e = e

-- what holds of each worker's spent turns holds of its turns
from_spent : (P : ℕ → Type 0) (turns : List Budget) → AllByRecursion P (spent_of turns) → AllByRecursion (λ t. P t.spent) turns
from_spent P [] each = tt
from_spent P (t ∷ turns) each = (each.0, from_spent P turns each.1)

module _ {S : Type 0} (m : GameModel S) (ask : Ask) (may_stop : Bool) (x : Found) (found : IsFoundGame m ask may_stop x) where
  pub has_gap : HasGap x
  has_gap = record { lower = found.one.small; upper = found.two.small }

  module _ (game : IsGame m) (asks : IsAskInRange ask) (text : PositionText) (place : IsPositionInRange text) (width : HasWidthOf m text)
      (outcome : Outcome) (ends : IsOutcomeFor (found_gap x) ask.gap x.resolution x.was_full (AreAllSpent ask x.turns) outcome) where
    abbrev r : Report
    r = report_with text ask x outcome

    -- what holds of each worker's turns holds of what it has spent, and the other way round
    each_spent : (P : ℕ → Type 0) → All (λ t. P t.spent) x.turns → All P (spent_of x.turns)
    each_spent P each = All-map P (λ t. t.spent) x.turns each

    none_spent : All (λ n. n ≡ 0) (spent_of x.turns) → All (λ t. t.spent ≡ 0) x.turns
    none_spent each = All-from_recursion (λ t. t.spent ≡ 0) x.turns (from_spent (λ n. n ≡ 0) x.turns (recursion_from_All (λ n. n ≡ 0) (spent_of x.turns) each))

    in_sheet : (side : Side) (sheet : Sheet) (bound : ℤ) → IsFoundPlan m ask may_stop (IsIdle m ask x) side sheet bound → (needs_newest r ≡ false → is_long sheet ≡ false)
        → IsSheetInRange (limits_of (version_of r)) side ask.weight sheet
    in_sheet side sheet bound plan short =
        let few = plan.few in let rows = asks.rows in let weight = asks.weight in let total = plan.total_is in
        let ranged = sheet_in_range m game (limits_of (version_of r)) sheet plan.lawful (omega arith) (moves_in r m.width game.width_high width) (rows_in r sheet (omega arith) short) in
        record { side_is = plan.side_is; total_is = total; few = ranged.few; rows = ranged.rows; moves = ranged.moves; rising = ranged.rising }

    allowed : (o : Outcome) → IsOutcomeFor (found_gap x) ask.gap x.resolution x.was_full (AreAllSpent ask x.turns) o → Allows (report_with text ask x o) o
    allowed Spent e = (record { asked = e.0; resolution = e.1 }, each_spent (λ n. n ≡ ask.turns) e.3)
    allowed Full e = record { asked = e.0; resolution = e.1 }
    allowed Stopped e = record { asked = e.0; resolution = e.1 }
    allowed o e = e

    full_by : (o : Outcome) → o ≡ Full → IsOutcomeFor (found_gap x) ask.gap x.resolution x.was_full (AreAllSpent ask x.turns) o → HasRoom m ask → ⊥
    full_by Full is e = found.full e.2
    full_by o is e = absurd (cc)

    spent_by : (o : Outcome) → o ≡ Spent → IsOutcomeFor (found_gap x) ask.gap x.resolution x.was_full (AreAllSpent ask x.turns) o → TooFewTurns m ask
    spent_by Spent is e = (found.spent e.2 (record { asked = e.0; resolution = e.1 })).too_few e.3
    spent_by o is e = absurd (cc)

    -- where turns are left, they may be given up
    is_true : (b : Bool) → (b ≡ false → ⊥) → b ≡ true
    is_true true not = refl
    is_true false not = absurd (not refl)

    stopped_by : (o : Outcome) → o ≡ Stopped → IsOutcomeFor (found_gap x) ask.gap x.resolution x.was_full (AreAllSpent ask x.turns) o → may_stop ≡ true
    stopped_by Stopped is e = is_true may_stop (λ no. e.3 ((found.spent e.2 (record { asked = e.0; resolution = e.1 })).all no))
    stopped_by o is e = absurd (cc)

    closed_by : (o : Outcome) → found_gap x ≤ℤ ask.gap → IsOutcomeFor (found_gap x) ask.gap x.resolution x.was_full (AreAllSpent ask x.turns) o → o ≡ Closed
    closed_by Closed near e = refl
    closed_by o near e = let wide = e.0 in absurd (omega (arith, ints))

    in_range : IsInRange r
    in_range = record {
      position = place;
      weight = asks.weight;
      turns = asks.turns;
      asked = asks.gap;
      resolution = (omega (arith, ints, found.resolution.1), found.resolution_high);
      lower = found.one.small;
      upper = found.two.small;
      workers = subst (λ (n : ℕ). Within 1 16 n) (sym (length-map x.turns (λ t. t.spent) ∙ found.workers)) asks.workers;
      spent = each_spent (λ n. n ≤ 1099511627776) (All-weaker (HasLimit ask may_stop) (λ t. t.spent ≤ 1099511627776) (λ t h. omega (arith, h.spent, h.no_more, asks.turns)) x.turns found.within);
      one = in_sheet One x.one x.lower found.one (short_one r);
      two = in_sheet Two x.two x.upper found.two (short_two r);
    }

    solution : IsSolution m text ask may_stop r
    solution = record {
      of_ask = record { position = refl; weight = refl; turns = refl; asked = refl; workers = length-map x.turns (λ t. t.spent) ∙ found.workers };
      in_range = in_range;
      resolution = found.resolution;
      outcome = allowed outcome ends;
      within = each_spent (λ n. n ≤ ask.turns) (All-weaker (HasLimit ask may_stop) (λ t. t.spent ≤ ask.turns) (λ t h. omega (arith, h.spent, h.no_more)) x.turns found.within);
      alone = λ none. (found.one.alone (none_spent none), found.two.alone (none_spent none));
      one_lawful = found.one.lawful;
      two_lawful = found.two.lawful;
      lower = found.one.bound_is;
      upper = found.two.bound_is;
      lower_guaranteed = found.one.guaranteed;
      upper_guaranteed = found.two.guaranteed;
      one_few = found.one.few;
      two_few = found.two.few;
      full = λ is. full_by outcome is ends;
      spent = λ is. spent_by outcome is ends;
      stopped = λ is. stopped_by outcome is ends;
      pure_lower = found.one.pure;
      pure_upper = found.two.pure;
      at_once = λ has many near.
          let low = found.one.pure has many in let high = found.two.pure has many in
          (closed_by outcome (omega (arith, ints)) ends, each_spent (λ n. n ≡ 0) (All-weaker (λ t. t.spent ≤ 0) (λ t. t.spent ≡ 0) (λ t few. omega arith) x.turns (found.at_once has many near)));
    }

  -- the report of what was found of a game is a solution of it
  pub found_solution : (text : PositionText) (s : Solved) → IsReportOf text ask x s → IsGame m → IsAskInRange ask → IsPositionInRange text → HasWidthOf m text
      → IsSolution m text ask may_stop s.report
  found_solution text s is game asks place width =
      subst (λ (s : Solved). IsSolution m text ask may_stop s.report) (sym is.is_solved) (solution game asks text place width is.outcome is.is_outcome)

-- what the closed board shows of the report
module _ {S : Type 0} (m : GameModel S) (ask : Ask) (x : Found) (found : IsFoundFor m ask (begun_whole false) x) where
  module _ (game : IsGame m) (asks : IsAskInRange ask) (text : PositionText) (place : IsPositionInRange text) (width : HasWidthOf m text)
      (outcome : Outcome) (ends : IsOutcomeFor (found_gap x) ask.gap x.resolution x.was_full (AreAllSpent ask x.turns) outcome) where
    no_row : (o : Outcome) → o ≡ Full → IsOutcomeFor (found_gap x) ask.gap x.resolution x.was_full (AreAllSpent ask x.turns) o → length x.kept ≡ ask.rows
    no_row Full is e = found.full e.2
    no_row o is e = absurd (cc)

    owed : (o : Outcome) → o ≡ Spent → IsOutcomeFor (found_gap x) ask.gap x.resolution x.was_full (AreAllSpent ask x.turns) o → length x.kept < ask.rows → AreOwed m ask 0 x.resolution x.kept
    owed Spent is e = found.owed e.2 (record { asked = e.0; resolution = e.1 }) e.3
    owed o is e = absurd (cc)

    solved_with : IsSolvedGame m text ask (record { report = report_with text ask x outcome; turns = x.turns; kept = x.kept })
    solved_with = record {
      solution = solution m ask false x (found_game m ask false x found) game asks text place width outcome ends;
      within = found.game.within;
      spent = refl;
      one_kept = found.one_kept.rows;
      two_kept = found.two_kept.rows;
      left = record { rows = found.rows; rooted = found.rooted; full = λ is. no_row outcome is ends; spent = λ is. owed outcome is ends };
      root = λ row held at. (found.one_kept.root row held at, found.two_kept.root row held at);
    }

  pub solved_game : (text : PositionText) (s : Solved) → IsReportOf text ask x s → IsGame m → IsAskInRange ask → IsPositionInRange text → HasWidthOf m text
      → IsSolvedGame m text ask s
  solved_game text s is game asks place width =
      subst (IsSolvedGame m text ask) (sym is.is_solved) (solved_with game asks text place width is.outcome is.is_outcome)

pub gap_fits : (x : Found) → HasGap x → SFits w64 x.lower → SFits w64 x.upper → SFits w64 (to_z w64 (of_z w64 x.upper) -ℤ to_z w64 (of_z w64 x.lower))
gap_fits x small lower_fits upper_fits =
    let a = small.lower in let b = small.upper in
    rw (to_z-of_z w64 x.lower lower_fits, to_z-of_z w64 x.upper upper_fits) (omega (arith, ints))
