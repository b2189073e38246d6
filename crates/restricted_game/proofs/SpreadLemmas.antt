-- Weights that are written among zeros.
use Rattle.std.proofs.Common.{◌≡◌, ◌≢◌, ◌⊎◌, inl, inr, ⊎_elim, ℕ, zero, suc, ◌+◌, ◌<◌, ◌≤◌, ℤ, pos, ◌+ℤ◌, ◌*ℤ◌, List, length, set, slice_index, replicate, refl, sym, ap, subst, ◌∙◌, add-one, arith}
use Rattle.std.proofs.lemmas.Int.{ints}
use Rattle.std.proofs.lemmas.Bool.{cases_lt, cases_eq, eq-eqb, false≢true}
use Rattle.std.proofs.lemmas.List.{get_or-set_same, get_or-set_other, length-set, length-replicate}
use Rattle.std.proofs.lemmas.Map.Keys.{apart_from_distinct}
use Rattle.sums.specs.Sums.{sum_below}
use Rattle.sums.proofs.SumLemmas.{sum_same, sum_none}
use Rattle.restricted_game.specs.Held.{AreMoves}

-- the first weights stand at the places of their moves, and 0 elsewhere
pub record IsSpreadSoFar (n : ℕ) (held weights : List ℕ) (count : ℕ) (full : List ℕ) : Type 0 where
  pub each : length full ≡ n
  pub elsewhere : (move : ℕ) → 1 ≤ slice_index full move → (i : ℕ) × (i < count) × (slice_index held i ≡ move)
  pub sums : (f : ℕ → ℤ) → sum_below n (λ a. pos (slice_index full a) *ℤ f a) ≡ sum_below count (λ i. pos (slice_index weights i) *ℤ f (slice_index held i))

-- a sum in which one term changes from 0
changed : (n at : ℕ) (f g : ℕ → ℤ) → at < n → f at ≡ pos 0 → ((i : ℕ) → i ≢ at → g i ≡ f i) → sum_below n g ≡ sum_below n f +ℤ g at
changed zero at f g l z same = absurd (omega arith)
changed (suc n) at f g l z same = ⊎_elim
    (λ (lt : at < n). let front = changed n at f g lt z same in let last : g n ≡ f n = same n (λ e. omega arith) in omega (arith, ints))
    (λ (ge : n ≤ at). let e : at ≡ n = omega arith in
    let front : sum_below n g ≡ sum_below n f = sum_same n g f (λ i p. same i (λ k. omega arith)) in
    let zero_at : f n ≡ pos 0 = ap f (sym e) ∙ z in
    let here : g at ≡ g n = ap g e in
    omega (arith, ints))
    (cases_lt at n)

none_or_some : (n : ℕ) → (n ≡ 0) ⊎ (1 ≤ n)
none_or_some zero = inl refl
none_or_some (suc n) = inr (omega arith)

zero_times : (k : ℕ) (x : ℤ) → k ≡ 0 → pos k *ℤ x ≡ pos 0
zero_times k x e = ap (λ (n : ℕ). pos n *ℤ x) e ∙ none x where
  none : (y : ℤ) → pos 0 *ℤ y ≡ pos 0
  none y = omega (arith, ints)

no_weight : (n i : ℕ) → slice_index (replicate n 0) i ≡ 0
no_weight zero i = refl
no_weight (suc n) zero = refl
no_weight (suc n) (suc i) = no_weight n i

pub spread_none : (n : ℕ) (held weights : List ℕ) → IsSpreadSoFar n held weights 0 (replicate n 0)
spread_none n held weights = record {
  each = length-replicate n 0;
  elsewhere = λ a h. absurd (let z = no_weight n a in omega arith);
  sums = λ f. sum_same n _ (λ _. pos 0) (λ a p. zero_times (slice_index (replicate n 0) a) (f a) (no_weight n a)) ∙ sum_none n;
}

module _ (n : ℕ) (held weights full : List ℕ) (i : ℕ) (moves : AreMoves n held) (inside : i < length held) (so_far : IsSpreadSoFar n held weights i full) where
  abbrev at : ℕ
  at = slice_index held i

  at_in : at < n
  at_in = moves.within i 0 inside

  in_full : at < length full
  in_full = let e = so_far.each in let w = at_in in omega arith

  -- no earlier weight stands there
  was_zero : slice_index full at ≡ 0
  was_zero = ⊎_elim (λ (z : slice_index full at ≡ 0). z)
      (λ (s : 1 ≤ slice_index full at). let w = so_far.elsewhere at s in absurd (false≢true (sym (apart_from_distinct _ held w.0 i 0 moves.apart w.1 inside) ∙ eq-eqb (slice_index held w.0) at w.2)))
      (none_or_some (slice_index full at))

  pub spread_more : IsSpreadSoFar n held weights (i + 1) (set full at (slice_index weights i))
  spread_more = record {
    each = length-set full at (slice_index weights i) ∙ so_far.each;
    elsewhere = λ a h. elim (cases_eq a at) [
      | inl e ↦ (i, omega arith, sym e)
      | inr d ↦ let w = so_far.elsewhere a (subst (λ (k : ℕ). 1 ≤ k) (get_or-set_other full at a (slice_index weights i) 0 d) h) in (w.0, let l = w.1 in omega arith, w.2)
    ];
    sums = λ f.
        changed n at (λ a. pos (slice_index full a) *ℤ f a) (λ a. pos (slice_index (set full at (slice_index weights i)) a) *ℤ f a) at_in
        (zero_times (slice_index full at) (f at) was_zero)
        (λ a d. ap (λ (k : ℕ). pos k *ℤ f a) (get_or-set_other full at a (slice_index weights i) 0 d))
        ∙ ap (λ (z : ℤ). z +ℤ pos (slice_index (set full at (slice_index weights i)) at) *ℤ f at) (so_far.sums f)
        ∙ ap (λ (k : ℕ). sum_below i (λ j. pos (slice_index weights j) *ℤ f (slice_index held j)) +ℤ pos k *ℤ f at) (get_or-set_same full at (slice_index weights i) 0 in_full)
        ∙ sym (ap (λ (k : ℕ). sum_below k (λ j. pos (slice_index weights j) *ℤ f (slice_index held j))) (add-one i));
  }
