-- Turns that are spent one after another.
use Rattle.std.proofs.Common.{◌≡◌, ℕ, Bool, false, Result, Ok, Err, IfErr, refl, sym, subst, arith}
use Rattle.std.specs.Prelude.{IsErrAnd}
use Rattle.sim_game.specs.Model.{GameModel}
use Rattle.matrix_game.specs.Budget.{Budget}
use Rattle.matrix_game.proofs.BudgetLemmas.{same_budget, budget_after}
use Rattle.induction.specs.declared.gave_up.GaveUp.{GaveUp}
use Rattle.induction.specs.declared.gave_up.GaveUp.TheVariants.{TooManyStates, Spent, NoMemory}
use Rattle.induction.specs.Undecided.{HasUndecided}
use Rattle.induction.proofs.UndecidedLemmas.{none_known, spent_each}
use Rattle.induction.specs.Spent.{HasSpent, HasSpentEach, IsReason, IsStopped}

pub none_spent : (n : ℕ) (b : Budget) → HasSpent n n b b
none_spent n b = record { same = same_budget b; more = omega arith; few = omega arith }

pub spent_more : (i j k : ℕ) (a b c : Budget) → HasSpent i j a b → HasSpent j k b c → HasSpent i k a c
spent_more i j k a b c p q = record {
  same = budget_after p.same q.same;
  more = let x = p.more in let y = q.more in omega (arith, x, y);
  few = let x = p.few in let y = q.few in omega (arith, x, y);
}

pub stopped_later : {S : Type 0} (m : GameModel S) (Many : Type 0) (i j : ℕ) (a b c : Budget) (e : GaveUp) → HasSpent i j a b → IsStopped m Many j b c e → IsStopped m Many i a c e
stopped_later m Many i j a b c e p q = record { why = q.why; count = q.count; undecided = q.undecided; spent = spent_more i j q.count a b c p q.spent }

pub stopped_at : {S : Type 0} (m : GameModel S) (Many : Type 0) (i j : ℕ) (a b : Budget) (e : GaveUp) → IsReason Many b e → HasUndecided m j → HasSpent i j a b → IsStopped m Many i a b e
stopped_at m Many i j a b e why undecided spent = record { why = why; count = j; undecided = undecided; spent = spent }

pub reason_up : (Many : Type 0) (b : Budget) (e : GaveUp) → IsReason ⊥ b e → IsReason Many b e
reason_up Many b TooManyStates h = absurd h
reason_up Many b Spent h = h
reason_up Many b NoMemory h = h

-- what is known of an error that was handed on
pub err_is : {T E : Type 0} (P Q : E → Type 0) (r : Result T E) → IsErrAnd r P → ((e : E) → P e → Q e) → IfErr r Q
err_is P Q (Ok x) h up = absurd h
err_is P Q (Err e) h up = up e h

pub no_memory : (Many : Type 0) (b : Budget) (e : GaveUp) → e ≡ NoMemory → IsReason Many b e
no_memory Many b e is = subst (IsReason Many b) (sym is) tt

-- ---- three times
module _ {S : Type 0} (m : GameModel S) where
  pub nothing : HasUndecided m 0
  nothing = (none_known m m.key (λ key. false) 0 refl).undecided

  pub each_one : (i : ℕ) (a b : Budget) → HasUndecided m i → HasSpent 0 i a b → HasSpentEach m 3 a b
  each_one i a b u p = spent_each m a b i 0 0 p.same p.more (let few = p.few in omega (arith, few)) u nothing nothing
