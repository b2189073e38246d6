-- Budgets of turns, from one moment to the next.
use Rattle.std.proofs.Common.{◌≡◌, ℕ, ◌≤◌, Bool, true, false, refl, ap, ◌∙◌, arith}
use Rattle.std.specs.Prelude.{cond}
use Rattle.matrix_game.specs.Budget.{Budget, left_of, after_one_turn, after_stop, IsSameBudget}

pub same_budget : (t : Budget) → IsSameBudget t t
same_budget t = record { may_stop = refl; no_more = omega arith; whole = λ _. refl }

pub budget_after : {t u v : Budget} → IsSameBudget t u → IsSameBudget u v → IsSameBudget t v
budget_after p q = record {
  may_stop = q.may_stop ∙ p.may_stop;
  no_more = let x = p.no_more in let y = q.no_more in omega arith;
  whole = λ e. q.whole (p.may_stop ∙ e) ∙ p.whole e;
}

pub one_turn_later : (t : Budget) → IsSameBudget t (after_one_turn t)
one_turn_later t = record { may_stop = refl; no_more = omega arith; whole = λ _. refl }

no_greater : (b : Bool) (s l : ℕ) → s ≤ l → cond b s l ≤ l
no_greater true s l within = within
no_greater false s l within = omega arith

pub stop_same : (t : Budget) → t.spent ≤ t.limit → IsSameBudget t (after_stop t)
stop_same t within = record {
  may_stop = refl;
  no_more = no_greater t.may_stop t.spent t.limit within;
  whole = λ e. ap (λ (b : Bool). cond b t.spent t.limit) e;
}

pub stop_left : (t : Budget) → t.may_stop ≡ true → left_of (after_stop t) ≡ 0
stop_left t may = rw may (omega arith)
