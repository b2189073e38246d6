-- What an induction comes to.
use Rattle.std.proofs.Common.{◌≡◌, ◌⊎◌, inl, inr, ℕ, ◌+◌, ◌≤◌, Result, Ok, Err, Option, None, Some, IfOk, IfSome, IfNone, length, refl, sym, subst, arith}
use Rattle.std.specs.Prelude.{◌≢◌, IsErrAnd}
use Rattle.sim_game.specs.declared.NoMemory.{NoMemory}
use Rattle.sim_game.specs.Model.{GameModel}
use Rattle.plan_book.specs.declared.Sheet.{Sheet}
use Rattle.plan_book.specs.Sheets.{root_bound}
use Rattle.matrix_game.specs.Budget.{Budget, left_of}
use Rattle.matrix_game.proofs.BudgetLemmas.{budget_after}
use Rattle.induction.specs.declared.gave_up.GaveUp.{GaveUp}
use Rattle.induction.specs.declared.gave_up.GaveUp.TheVariants as reasons
use Rattle.induction.specs.declared.induced.Induced.{Induced}
use Rattle.induction.specs.Induced.{AreBothSheets, IsInduced, IsInductionResult}
use Rattle.induction.specs.Listed.{HasValues}
use Rattle.induction.specs.Spent.{HasSpent, HasSpentEach, IsReason}
use Rattle.induction.specs.Undecided.{HasUndecided}
use Rattle.induction.proofs.SpentLemmas.{each_one, none_spent, nothing}
use Rattle.induction.proofs.UndecidedLemmas.{spent_each}

left_or : (Many : Type 0) (b : Budget) (e : GaveUp) → e ≢ reasons.NoMemory → IsReason Many b e → (left_of b ≡ 0) ⊎ Many
left_or Many b reasons.TooManyStates some why = inr why
left_or Many b reasons.Spent some why = inl why
left_or Many b reasons.NoMemory some why = absurd (some refl)

module _ {S : Type 0} (m : GameModel S) (total rows : ℕ) where
  pub err_solved : (P : NoMemory → Type 0) (r : Result (Option Induced) NoMemory) (b : Budget) → IsErrAnd r P → IsInductionResult m total rows b b r
  err_solved P (Ok x) b h = absurd h
  err_solved P (Err e) b h = record { sheets = tt; few = tt; none = tt; spent = each_one m 0 b b (nothing m) (none_spent 0 b) }

  pub nothing_solved : (r : Result (Option Induced) NoMemory) (a b : Budget) (e : GaveUp) → IfOk r (λ found. found ≡ None) → IfOk r (λ _. e ≢ reasons.NoMemory)
      → IsReason (HasUndecided m (rows + 1)) b e → HasSpentEach m 3 a b → IsInductionResult m total rows a b r
  nothing_solved (Ok found) a b e none some why each = record {
    sheets = subst (λ (f : Option Induced). IfSome f (IsInduced m total)) (sym none) tt;
    few = subst (λ (f : Option Induced). IfSome f (λ x. HasSpent 0 (rows + length x.one.rows + length x.two.rows) a b)) (sym none) tt;
    none = subst (λ (f : Option Induced). IfNone f ((left_of b ≡ 0) ⊎ HasUndecided m (rows + 1))) (sym none) (left_or (HasUndecided m (rows + 1)) b e some why);
    spent = each;
  }
  nothing_solved (Err x) a b e none some why each = record { sheets = tt; few = tt; none = tt; spent = each }

  module _ (a b c : Budget) (v : HasValues m rows a b) (r : Result (Sheet × Sheet) GaveUp) (p : AreBothSheets m total rows b c r) where
    pub each_spent : HasSpentEach m 3 a c
    each_spent = spent_each m a c v.count p.planned.one p.planned.two (budget_after v.spent.same p.planned.spent.same)
        (let x = v.spent.more in let y = p.planned.spent.more in omega (arith, x, y)) (let x = v.spent.few in let y = p.planned.spent.few in omega (arith, x, y))
        v.undecided p.planned.one_undecided p.planned.two_undecided

  pub made_solved : (a b c : Budget) → HasValues m rows a b → (one two : Sheet) → AreBothSheets m total rows b c (Ok (one, two)) → (x : Induced) → x.one ≡ one → x.two ≡ two
      → x.lower ≡ root_bound m one → x.upper ≡ root_bound m two → IsInductionResult m total rows a c (Ok (Some x))
  made_solved a b c v one two p x is_one is_two lower upper = record {
    sheets = record { one = rw is_one p.one; two = rw is_two p.two; lower = rw is_one lower; upper = rw is_two upper };
    few = rw (is_one, is_two) (few_spent v.few v.spent p.few);
    none = tt;
    spent = each_spent a b c v (Ok (one, two)) p;
  } where
    few_spent : v.count ≤ rows → HasSpent 0 v.count a b → HasSpent 0 (length one.rows + length two.rows) b c → HasSpent 0 (rows + length one.rows + length two.rows) a c
    few_spent most s t = record {
      same = budget_after s.same t.same;
      more = let x = s.more in let y = t.more in omega (arith, x, y);
      few = let x = s.few in let y = t.few in omega (arith, x, y, most);
    }
