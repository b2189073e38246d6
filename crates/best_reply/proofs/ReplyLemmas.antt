-- One more reply, and one more own move.
use Rattle.std.proofs.Common.{rules, ◌≡◌, ◌≢◌, ◌⊎◌, ⊎_elim, ℕ, ◌+◌, ◌<◌, ◌≤◌, ℤ, List, Bool, true, false, IsTrue, IsFalse, sym, ap, subst, ◌∙◌, arith}
use Rattle.std.proofs.lemmas.Int.{ints}
use Rattle.std.proofs.lemmas.Bool.{cases_lt}
use Rattle.std.specs.List.{Contains}
use Rattle.sim_game.specs.declared.Side.{Side}
use Rattle.sim_game.specs.declared.Side.TheVariants.{One, Two}
use Rattle.sim_game.specs.Sides.{IsNoTighter, IsTighter}
use Rattle.sim_game.proofs.SideLemmas.{looser_refl, looser_trans, tighter_is}
use Rattle.best_reply.specs.Replies.{IsBestReply, IsBefore, IsBehind, less, held, more, old, new}

-- a number that is no tighter than a second one is not a third that the second is tighter than
tighter_other : (side : Side) (x y z : ℤ) → IsTighter side x y → IsNoTighter side x z → z ≢ y
tighter_other One x y z h k e = absurd (omega (arith, ints))
tighter_other Two x y z h k e = absurd (omega (arith, ints))

both : (b : Bool) → IsTrue b → IsFalse b → ⊥
both true p q = search rules
both false p q = search rules

below : (n i : ℕ) → i < n + 1 → (i < n) ⊎ (i ≡ n)
below n i h = ⊎_elim (λ (lt : i < n). search rules) (λ (ge : n ≤ i). let e : i ≡ n = omega arith in search rules) (cases_lt i n)

module _ (side : Side) (worths : ℕ → ℤ) (n : ℕ) (list : List ℕ) (place : ℕ) (sum : ℤ) (fresh : Bool) (x : ℤ) (next_fresh : Bool)
    (best : IsBestReply side worths n list place sum fresh) (is_worth : x ≡ worths n) (is_old : IsFalse next_fresh → Contains list n) (is_new : IsTrue next_fresh → Contains list n → ⊥) where
  pub reply_before : IsBefore side sum fresh x next_fresh → IsBestReply side worths (n + 1) list n x next_fresh
  reply_before (less h) = record {
    place_in = omega arith;
    worth = is_worth;
    least = λ i p. ⊎_elim (λ (lt : i < n). looser_trans side x sum (worths i) (tighter_is side sum x h) (best.least i lt))
        (λ (e : i ≡ n). subst (λ (z : ℤ). IsNoTighter side x z) (is_worth ∙ ap worths (sym e)) (looser_refl side x)) (below n i p);
    old = is_old;
    new = λ f i p c e. ⊎_elim (λ (lt : i < n). tighter_other side sum x (worths i) h (best.least i lt) e) (λ (s : i ≡ n). is_new f (subst (λ (k : ℕ). Contains list k) s c)) (below n i p);
    first_old = λ f i p c e. tighter_other side sum x (worths i) h (best.least i p) e;
    first_new = λ f i p e. tighter_other side sum x (worths i) h (best.least i p) e;
  }
  reply_before (held same was now) = record {
    place_in = omega arith;
    worth = is_worth;
    least = λ i p. ⊎_elim (λ (lt : i < n). subst (λ (z : ℤ). IsNoTighter side z (worths i)) (sym same) (best.least i lt))
        (λ (e : i ≡ n). subst (λ (z : ℤ). IsNoTighter side x z) (is_worth ∙ ap worths (sym e)) (looser_refl side x)) (below n i p);
    old = is_old;
    new = λ f i p c e. both next_fresh f now;
    first_old = λ f i p c e. best.new was i p c (e ∙ same);
    first_new = λ f i p e. both next_fresh f now;
  }

  later_least : IsNoTighter side sum x → (i : ℕ) → i < n + 1 → IsNoTighter side sum (worths i)
  later_least h i p = ⊎_elim (λ (lt : i < n). best.least i lt)
      (λ (e : i ≡ n). subst (λ (z : ℤ). IsNoTighter side sum z) (is_worth ∙ ap worths (sym e)) h) (below n i p)

  kept : IsNoTighter side sum x → (IsTrue fresh → Contains list n → worths n ≢ sum) → IsBestReply side worths (n + 1) list place sum fresh
  kept h k = record {
    place_in = let p = best.place_in in omega arith;
    worth = best.worth;
    least = later_least h;
    old = best.old;
    new = λ f i p c e. ⊎_elim (λ (lt : i < n). best.new f i lt c e) (λ (s : i ≡ n). k f (subst (λ (j : ℕ). Contains list j) s c) (ap worths (sym s) ∙ e)) (below n i p);
    first_old = best.first_old;
    first_new = best.first_new;
  }

  pub reply_behind : IsBehind side sum fresh x next_fresh → IsBestReply side worths (n + 1) list place sum fresh
  reply_behind (more h d) = kept h (λ f c e. d (is_worth ∙ e))
  reply_behind (old same was) = kept (subst (λ (z : ℤ). IsNoTighter side sum z) (sym same) (looser_refl side sum)) (λ f c e. both fresh f was)
  reply_behind (new same now) = kept (subst (λ (z : ℤ). IsNoTighter side sum z) (sym same) (looser_refl side sum)) (λ f c e. is_new now c)
