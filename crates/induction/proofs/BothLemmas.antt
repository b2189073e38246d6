-- The sheets of both sides: what was spent for each, and why one gave up.
use Rattle.std.proofs.Common.{◌≡◌, ⊎_elim, ℕ, List, ◌+◌, ◌/◌, ◌<◌, ◌≤◌, Bool, true, false, Result, Ok, Err, length, refl, sym, subst, ◌∙◌, arith}
use Rattle.std.proofs.lemmas.Bool.{cases_lt}
use Rattle.sim_game.specs.declared.Side.{Side}
use Rattle.sim_game.specs.declared.Side.TheVariants.{One, Two}
use Rattle.sim_game.specs.Model.{GameModel}
use Rattle.plan_book.specs.declared.Sheet.{Sheet}
use Rattle.plan_book.specs.Sheets.{row_at, IsLawful}
use Rattle.matrix_game.specs.Budget.{Budget, IsSameBudget, left_of, after_stop}
use Rattle.matrix_game.proofs.BudgetLemmas.{budget_after, stop_left, stop_same}
use Rattle.induction.specs.declared.PlannedState.{PlannedState}
use Rattle.induction.specs.declared.gave_up.GaveUp.{GaveUp}
use Rattle.induction.specs.declared.gave_up.GaveUp.TheVariants.{TooManyStates, Spent, NoMemory}
use Rattle.induction.specs.Certified.{HasBestBounds}
use Rattle.induction.specs.Planned.{planned, weights_of_row, IsWholePlan}
use Rattle.induction.specs.Induced.{of_side, own_turns, AreBothSheets, HasPlanned, IsOwnSheet}
use Rattle.induction.specs.Spent.{HasSpent, IsReason, IsStopped}
use Rattle.induction.specs.Undecided.{HasUndecided}
use Rattle.induction.proofs.FollowLemmas.{each_row_still}
use Rattle.induction.proofs.SpentLemmas.{nothing, reason_up}
use Rattle.induction.proofs.UndecidedLemmas.{fewer}

-- a plan from the root with its bounds is the sheet of its side
pub own_sheet : {S : Type 0} (m : GameModel S) (side : Side) (total : ℕ) (states : List (PlannedState S)) (sheet : Sheet) (old new : Budget)
    → sheet.side ≡ side → sheet.total ≡ total → IsLawful m sheet → HasBestBounds m sheet → length sheet.rows ≡ length states
    → ((key : ℕ) → weights_of_row (row_at sheet.rows key) ≡ weights_of_row (planned states key))
    → IsWholePlan m side total states → HasUndecided m (length states) → HasSpent 0 (length states) old new → IsOwnSheet m side total old new (Ok sheet)
own_sheet m side total states sheet old new is_side is_total lawful best many weights plan undecided spent = record {
  sheet = record {
    is_side = is_side;
    is_total = is_total;
    lawful = lawful;
    best = best;
    whole = each_row_still m side (planned states) (row_at sheet.rows) weights plan.whole;
  };
  undecided = subst (HasUndecided m) (sym many) undecided;
  spent = subst (λ n. HasSpent 0 n old new) (sym many) spent;
  err = tt;
}

-- some undecided states, each for at most a turn
pub record HasCounted {S : Type 0} (m : GameModel S) (old new : Budget) : Type 0 where
  pub count : ℕ
  pub undecided : HasUndecided m count
  pub spent : HasSpent 0 count old new

spent_both : (i j : ℕ) (a b c : Budget) → HasSpent 0 i a b → HasSpent 0 j b c → HasSpent 0 (i + j) a c
spent_both i j a b c p q = record {
  same = budget_after p.same q.same;
  more = let x = p.more in let y = q.more in omega (arith, x, y);
  few = let x = p.few in let y = q.few in omega (arith, x, y);
}

module _ {S : Type 0} (m : GameModel S) (total rows : ℕ) where
  pub counted : (side : Side) (a b : Budget) (r : Result Sheet GaveUp) → IsOwnSheet m side total a b r → HasCounted m a b
  counted side a b (Ok x) own = record { count = length x.rows; undecided = own.undecided; spent = own.spent }
  counted side a b (Err e) own = record { count = own.err.count; undecided = own.err.undecided; spent = own.err.spent }

  -- ---- one side after the other
  pub first_stopped : (a b : Budget) (e : GaveUp) → IsStopped m ⊥ 0 a b e → AreBothSheets m total rows a b (Err e)
  first_stopped a b e end = record {
    one = tt;
    two = tt;
    few = tt;
    planned = record {
      one = end.count;
      two = 0;
      one_undecided = end.undecided;
      two_undecided = nothing m;
      spent = record { same = end.spent.same; more = end.spent.more; few = let few = end.spent.few in omega (arith, few) };
    };
    err = reason_up (HasUndecided m (rows + 1)) b e end.why;
  }

  pub second_stopped : (a b c : Budget) (x : Sheet) (e : GaveUp) → IsOwnSheet m One total a b (Ok x) → IsStopped m ⊥ 0 b c e → AreBothSheets m total rows a c (Err e)
  second_stopped a b c x e own end = record {
    one = tt;
    two = tt;
    few = tt;
    planned = record {
      one = length x.rows;
      two = end.count;
      one_undecided = own.undecided;
      two_undecided = end.undecided;
      spent = spent_both (length x.rows) end.count a b c own.spent end.spent;
    };
    err = reason_up (HasUndecided m (rows + 1)) c e end.why;
  }

  pub both_made : (a b c : Budget) (x y : Sheet) → IsOwnSheet m One total a b (Ok x) → IsOwnSheet m Two total b c (Ok y) → AreBothSheets m total rows a c (Ok (x, y))
  both_made a b c x y p q = record {
    one = p.sheet;
    two = q.sheet;
    few = spent_both (length x.rows) (length y.rows) a b c p.spent q.spent;
    planned = record {
      one = length x.rows;
      two = length y.rows;
      one_undecided = p.undecided;
      two_undecided = q.undecided;
      spent = spent_both (length x.rows) (length y.rows) a b c p.spent q.spent;
    };
    err = tt;
  }

  -- ---- both sides at once, with one turn more for each than there may be rows
  abbrev pub own : Budget → Budget
  own b = own_turns rows b.may_stop

  abbrev pub after : Budget → ℕ → Budget
  after b spent = record b { spent = b.spent + spent }

  still : (b : Budget) (n : ℕ) → IsSameBudget b (after b n)
  still b n = record { may_stop = refl; no_more = omega arith; whole = λ _. refl }

  pub planned_at_once : (b x y : Budget) → HasCounted m (own b) x → HasCounted m (own b) y → HasPlanned m b (after b (x.spent + y.spent))
  planned_at_once b x y p q = record {
    one = p.count;
    two = q.count;
    one_undecided = p.undecided;
    two_undecided = q.undecided;
    spent = record { same = still b (x.spent + y.spent); more = omega arith; few = let i = p.spent.few in let j = q.spent.few in omega (arith, i, j) };
  }

  -- a budget of one's own has no more turns than it began with
  pub own_within : (b x : Budget) → HasCounted m (own b) x → x.limit ≤ rows + 1
  own_within b x p = p.spent.same.no_more

  pub both_within : (b x y : Budget) → HasCounted m (own b) x → HasCounted m (own b) y → x.spent ≤ x.limit → y.spent ≤ y.limit → rows < left_of b / 2 → x.spent + y.spent ≤ left_of b
  both_within b x y p q i j enough = let k = own_within b x p in let l = own_within b y q in omega (arith, i, j, k, l, enough)

  pub made_at_once : (b x y : Budget) (s t : Sheet) → IsOwnSheet m One total (own b) x (Ok s) → IsOwnSheet m Two total (own b) y (Ok t)
      → AreBothSheets m total rows b (after b (x.spent + y.spent)) (Ok (s, t))
  made_at_once b x y s t p q = record {
    one = p.sheet;
    two = q.sheet;
    few = record { same = still b (x.spent + y.spent); more = omega arith; few = let i = p.spent.few in let j = q.spent.few in omega (arith, i, j) };
    planned = planned_at_once b x y (counted One (own b) x (Ok s) p) (counted Two (own b) y (Ok t) q);
    err = tt;
  }

  -- one that has all of them left for the states there may be was not stopped
  too_many : (b x : Budget) (e : GaveUp) → IsStopped m ⊥ 0 (own b) x e → rows + 1 ≤ x.limit → (c : Budget) → IsReason (HasUndecided m (rows + 1)) c (of_side e)
  too_many b x TooManyStates end whole c = absurd end.why
  too_many b x Spent end whole c = fewer m end.count (rows + 1) end.undecided (let none = end.why in let few = end.spent.few in omega (arith, none, few, whole))
  too_many b x NoMemory end whole c = tt

  is_true : (t : Bool) → (t ≡ false → ⊥) → t ≡ true
  is_true true not = refl
  is_true false not = absurd (not refl)

  may_stop : (b x : Budget) (e : GaveUp) → IsStopped m ⊥ 0 (own b) x e → x.limit < rows + 1 → b.may_stop ≡ true
  may_stop b x e end less = is_true b.may_stop (λ no. let whole = end.spent.same.whole no in omega (arith, whole, less))

  told : (b x mid : Budget) (e : GaveUp) → IsStopped m ⊥ 0 (own b) x e → x.limit < rows + 1 → mid.may_stop ≡ b.may_stop → IsReason (HasUndecided m (rows + 1)) (after_stop mid) e
  told b x mid TooManyStates end less same = absurd end.why
  told b x mid Spent end less same = stop_left mid (same ∙ may_stop b x Spent end less)
  told b x mid NoMemory end less same = tt

  -- why one side gave up, and with it both
  pub side_stopped : (b x mid new : Budget) (e result : GaveUp) → HasPlanned m b mid → mid.may_stop ≡ b.may_stop → mid.spent ≤ mid.limit → IsStopped m ⊥ 0 (own b) x e
      → (rows + 1 ≤ x.limit → (result ≡ of_side e) × (new ≡ mid)) → (x.limit < rows + 1 → (result ≡ e) × (new ≡ after_stop mid)) → AreBothSheets m total rows b new (Err result)
  side_stopped b x mid new e result planned same within end whole stopped = ⊎_elim
      (λ (less : x.limit < rows + 1).
      let is = stopped less in
      rw (is.0, is.1) (record {
        one = tt;
        two = tt;
        few = tt;
        planned = record {
          one = planned.one;
          two = planned.two;
          one_undecided = planned.one_undecided;
          two_undecided = planned.two_undecided;
          spent = record { same = budget_after planned.spent.same (stop_same mid within); more = planned.spent.more; few = planned.spent.few };
        };
        err = told b x mid e end less same;
      }))
      (λ (all : rows + 1 ≤ x.limit).
      let is = whole all in
      rw (is.0, is.1) (record { one = tt; two = tt; few = tt; planned = planned; err = too_many b x e end all mid }))
      (cases_lt x.limit (rows + 1))
