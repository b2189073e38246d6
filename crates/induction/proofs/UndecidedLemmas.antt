-- How many undecided states are known, one state after another.
use Rattle.std.proofs.Common.{◌≡◌, inl, inr, ℕ, ◌+◌, ◌<◌, ◌≤◌, Bool, true, false, cond, eqb, refl, sym, ap, subst, ◌∙◌, arith}
use Rattle.std.specs.Prelude.{◌≢◌}
use Rattle.std.proofs.lemmas.Bool.{cases_lt}
use Rattle.sim_game.specs.Model.{GameModel, Reachable}
use Rattle.plan_book.proofs.ExpectedLemmas.{is_same, is_other}
use Rattle.matrix_game.specs.Budget.{Budget, IsSameBudget}
use Rattle.induction.specs.Undecided.{IsUndecided, HasUndecided, KnowsUndecided}
use Rattle.induction.specs.Spent.{HasSpentEach}

module _ {S : Type 0} (m : GameModel S) where
  pub none_known : (number : S → ℕ) (known : ℕ → Bool) (count : ℕ) → count ≡ 0 → KnowsUndecided m number known count
  none_known number known count e = record {
    undecided = record {
      states = λ i. m.root;
      reachable = λ i l. absurd (omega (arith, e));
      each = λ i l. absurd (omega (arith, e));
      apart = λ i j l h. absurd (omega (arith, e));
    };
    each = λ i l. absurd (omega (arith, e));
  }

  pub fewer : (count less : ℕ) → HasUndecided m count → less ≤ count → HasUndecided m less
  fewer count less h few = record {
    states = h.states;
    reachable = λ i l. h.reachable i (omega (arith, l, few));
    each = λ i l. h.each i (omega (arith, l, few));
    apart = λ i j l k. h.apart i j l (omega (arith, k, few));
  }

  -- ---- one state more, whose number is not known yet
  module _ (number : S → ℕ) (known : ℕ → Bool) (count : ℕ) (old : KnowsUndecided m number known count) (s : S) (reach : Reachable m s) (mine : IsUndecided m s) (new : known (number s) ≡ false) where
    abbrev further : ℕ → S
    further i = cond (eqb i count) s (old.undecided.states i)

    before : (i : ℕ) → i < count → further i ≡ old.undecided.states i
    before i l = ap (λ (b : Bool). cond b s (old.undecided.states i)) (is_other i count (λ e. absurd (omega (arith, e, l))))

    last : further count ≡ s
    last = ap (λ (b : Bool). cond b s (old.undecided.states count)) (is_same count count refl)

    for_each : (P : S → Type 0) → ((i : ℕ) → i < count → P (old.undecided.states i)) → P s → (i : ℕ) → i < count + 1 → P (further i)
    for_each P each here i l = elim (cases_lt i count) [
      | inl earlier ↦ subst P (sym (before i earlier)) (each i earlier)
      | inr not ↦ let it : i ≡ count = omega arith in subst P (ap further (sym it)) (subst P (sym last) here)
    ]

    other : (i : ℕ) → i < count → old.undecided.states i ≢ s
    other i l e = absurd (let yes : known (number s) ≡ true = ap (λ (x : S). known (number x)) (sym e) ∙ old.each i l in let no : true ≡ false = sym yes ∙ new in cc)

    apart_more : (i j : ℕ) → i < j → j < count + 1 → further i ≢ further j
    apart_more i j l h = elim (cases_lt j count) [
      | inl earlier ↦ λ e. old.undecided.apart i j l earlier (sym (before i (omega (arith, l, earlier))) ∙ e ∙ before j earlier)
      | inr not ↦
          let it : j ≡ count = omega arith in
          λ e. other i (omega (arith, l, it)) (sym (before i (omega (arith, l, it))) ∙ e ∙ ap further it ∙ last)
    ]

    pub one_more_undecided : HasUndecided m (count + 1)
    one_more_undecided = record {
      states = further;
      reachable = for_each (Reachable m) old.undecided.reachable reach;
      each = for_each (IsUndecided m) old.undecided.each mine;
      apart = apart_more;
    }

    still : (now : ℕ → Bool) → ((q : ℕ) → now q ≡ cond (eqb (number s) q) true (known q)) → (q : ℕ) → known q ≡ true → now q ≡ true
    still now put q h = put q ∙ ap (λ (b : Bool). cond (eqb (number s) q) true b) h ∙ either (eqb (number s) q)
      where
        either : (b : Bool) → cond b true true ≡ true
        either true = refl
        either false = refl

    pub known_more : (now : ℕ → Bool) → ((q : ℕ) → now q ≡ cond (eqb (number s) q) true (known q)) → KnowsUndecided m number now (count + 1)
    unfolding one_more_undecided
    known_more now put = record {
      undecided = one_more_undecided;
      each = for_each (λ x. now (number x) ≡ true) (λ i l. still now put (number (old.undecided.states i)) (old.each i l))
          (put (number s) ∙ ap (λ (b : Bool). cond b true (known (number s))) (is_same (number s) (number s) refl));
    }

  -- ---- the most of three
  larger : (a b : ℕ) → HasUndecided m a → HasUndecided m b → (c : ℕ) × HasUndecided m c × (a ≤ c) × (b ≤ c)
  larger a b p q = elim (cases_lt a b) [
    | inl less ↦ (b, q, omega (arith, less), omega arith)
    | inr not ↦ (a, p, omega arith, omega arith)
  ]

  pub spent_each : (old new : Budget) (a b c : ℕ) → IsSameBudget old new → old.spent ≤ new.spent → new.spent ≤ old.spent + (a + b + c) → HasUndecided m a → HasUndecided m b → HasUndecided m c
      → HasSpentEach m 3 old new
  spent_each old new a b c same more few p q r =
      let ab = larger a b p q in
      let abc = larger ab.0 c ab.1 r in
      let x = ab.2 in let y = ab.3 in let z = abc.2 in let w = abc.3 in
      record { same = same; more = more; count = abc.0; undecided = abc.1; few = omega (arith, few, x, y, z, w) }
