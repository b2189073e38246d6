-- Undecided states in a list, each once, and the turns that their values take.
use Rattle.std.proofs.Common.{◌≡◌, ℕ, ◌+◌, ◌-◌, ◌<◌, ◌≤◌, All, Bool, true, false, cond, eqb, List, [], ◌∷◌, ◌++◌, length, sym, subst, arith}
use Rattle.std.proofs.lemmas.List.{length_push}
use Rattle.std.proofs.lemmas.List.Elements.{All-push}
use Rattle.sim_game.specs.Model.{GameModel, Reachable}
use Rattle.matrix_game.specs.Budget.{Budget}
use Rattle.matrix_game.proofs.BudgetLemmas.{budget_after}
use Rattle.induction.specs.Listed.{GoesOn, AreListed}
use Rattle.induction.specs.Spent.{HasSpent}
use Rattle.induction.specs.Undecided.{IsUndecided, HasUndecided, KnowsUndecided}
use Rattle.induction.proofs.UndecidedLemmas.{known_more, one_more_undecided}

module _ {S : Type 0} (m : GameModel S) (number : S → ℕ) (rows : ℕ) (known : ℕ → Bool) where
  module _ (states : List S) (old : AreListed m number rows known states) (s : S) (reach : Reachable m s) (mine : IsUndecided m s) (new : known (number s) ≡ false) where
    pub listed_more : (now : ℕ → Bool) → ((q : ℕ) → now q ≡ cond (eqb (number s) q) true (known q)) → length states < rows → AreListed m number rows now (states ++ s ∷ [])
    listed_more now put room = record {
      known_are = subst (KnowsUndecided m number now) (sym (length_push states s)) (known_more m number known (length states) old.known_are s reach mine new now put);
      few = let long = length_push states s in omega (arith, long, room);
      each = All-push (GoesOn m) states s old.each (record { reachable = reach; no_end = mine.goes_on });
    }

    pub listed_full : rows ≤ length states → HasUndecided m (rows + 1)
    listed_full full =
        let all : length states ≡ rows = (let few = old.few in omega (arith, few, full)) in
        subst (λ (n : ℕ). HasUndecided m (n + 1)) all (one_more_undecided m number known (length states) old.known_are s reach mine new)

-- so many of the states that were counted have values now
pub missing_less : (missing n count : ℕ) (a b c : Budget) → count ≤ missing → HasSpent missing n a b → HasSpent 0 count b c → HasSpent (missing - count) n a c
missing_less missing n count a b c most p q = record {
  same = budget_after p.same q.same;
  more = let x = p.more in let y = q.more in omega (arith, x, y);
  few = let x = p.few in let y = q.few in omega (arith, x, y, most);
}

pub none_missing : (missing n : ℕ) (a b : Budget) → HasSpent missing n a b → HasSpent 0 n a b
none_missing missing n a b p = record { same = p.same; more = p.more; few = let x = p.few in omega (arith, x) }

-- ---- states by when they get values
pub all_same : {X : Type 0} (P : X → Type 0) (xs ys : List X) → xs ≡ ys → All P ys → All P xs
all_same P xs ys e h = rw e h

pub all_more : {X : Type 0} (P : X → Type 0) (xs ys : List X) (x y : X) → ys ≡ xs ++ x ∷ [] → x ≡ y → All P xs → P y → All P ys
all_more P xs ys x y e is h here = rw (e, is) (All-push P xs y h here)
