-- Numbers, sums and quotients that are close to each other.
use Rattle.std.proofs.Common.{◌≡◌, ⊎_elim, ℕ, ◌+◌, ◌<◌, ℤ, pos, ◌+ℤ◌, ◌*ℤ◌, ◌≤ℤ◌, ◌<ℤ◌, sym, ap, subst, ◌∙◌, arith}
use Rattle.std.proofs.lemmas.Int.{ints}
use Rattle.sums.specs.Sums.{sum_below, count_below}
use Rattle.sums.specs.Quotients.{floor_quotient, ceiling_quotient}
use Rattle.sums.proofs.IntegerLemmas.{int_le_refl, times_mono, times_add, floor_greatest, ceiling_least}
use Rattle.sums.proofs.SumLemmas.{sum_mono, sum_add, sum_weights}
use Rattle.sim_game.specs.declared.Side.TheVariants.{One, Two}
use Rattle.sim_game.specs.Model.{whole_chance}
use Rattle.sim_game.proofs.SideLemmas.{tighter_or}
use Rattle.plan_book.specs.Steps.{rounded}

-- a number is at most the divisor times one more than its quotient rounded down
over_floor : (k : ℕ) (x : ℤ) → 0 < k → x ≤ℤ (pos k *ℤ (floor_quotient k x +ℤ pos 1))
over_floor k x p = ⊎_elim
    (λ (h : (pos k *ℤ (floor_quotient k x +ℤ pos 1)) <ℤ x). absurd (let wrong = floor_greatest k x (floor_quotient k x +ℤ pos 1) p (omega (arith, ints)) in omega (arith, ints)))
    (λ (h : x ≤ℤ (pos k *ℤ (floor_quotient k x +ℤ pos 1))). h)
    (tighter_or One x (pos k *ℤ (floor_quotient k x +ℤ pos 1)))

-- the quotients of close numbers are one further apart
pub quotients_close : (total gap : ℕ) (low high : ℤ) → 0 < total → high ≤ℤ (low +ℤ pos total *ℤ pos gap) → ceiling_quotient total high ≤ℤ (floor_quotient total low +ℤ pos (gap + 1))
quotients_close total gap low high p near =
    let under = over_floor total low p in
    let apart : pos total *ℤ (floor_quotient total low +ℤ pos 1) +ℤ pos total *ℤ pos gap ≡ pos total *ℤ (floor_quotient total low +ℤ pos (gap + 1)) =
    sym (times_add total (floor_quotient total low +ℤ pos 1) (pos gap)) ∙ ap (λ (z : ℤ). pos total *ℤ z) (omega (arith, ints)) in
    ceiling_least total high (floor_quotient total low +ℤ pos (gap + 1)) p (omega (arith, ints))

-- sums by the same weights over close numbers
module _ (n : ℕ) (weights : ℕ → ℕ) (total : ℕ) (all : count_below n weights ≡ total) (low high : ℕ → ℤ) (gap : ℕ) (close : (i : ℕ) → i < n → high i ≤ℤ (low i +ℤ pos gap)) where
  pub sums_close : sum_below n (λ i. pos (weights i) *ℤ high i) ≤ℤ (sum_below n (λ i. pos (weights i) *ℤ low i) +ℤ pos total *ℤ pos gap)
  sums_close =
      let each : sum_below n (λ i. pos (weights i) *ℤ high i) ≤ℤ sum_below n (λ i. pos (weights i) *ℤ low i +ℤ pos (weights i) *ℤ pos gap) =
      sum_mono n _ _ (λ i h. subst (λ (z : ℤ). (pos (weights i) *ℤ high i) ≤ℤ z) (times_add (weights i) (low i) (pos gap)) (times_mono (weights i) (high i) (low i +ℤ pos gap) (close i h))) in
      let apart : sum_below n (λ i. pos (weights i) *ℤ low i +ℤ pos (weights i) *ℤ pos gap) ≡ sum_below n (λ i. pos (weights i) *ℤ low i) +ℤ pos total *ℤ pos gap =
      sum_add n (λ i. pos (weights i) *ℤ low i) (λ i. pos (weights i) *ℤ pos gap)
      ∙ ap (λ (z : ℤ). sum_below n (λ i. pos (weights i) *ℤ low i) +ℤ z) (sum_weights n weights (pos gap) ∙ ap (λ (k : ℕ). pos k *ℤ pos gap) all) in
      subst (λ (z : ℤ). sum_below n (λ i. pos (weights i) *ℤ high i) ≤ℤ z) apart each

module _ (n : ℕ) (chance : ℕ → ℕ) (all : count_below n chance ≡ whole_chance) (low high : ℕ → ℤ) (gap : ℕ) (close : (d : ℕ) → d < n → high d ≤ℤ (low d +ℤ pos gap)) where
  -- the cells of close numbers are one further apart
  pub cells_close : rounded Two (sum_below n (λ d. pos (chance d) *ℤ high d)) ≤ℤ (rounded One (sum_below n (λ d. pos (chance d) *ℤ low d)) +ℤ pos (gap + 1))
  cells_close = quotients_close whole_chance gap _ _ (omega arith) (sums_close n chance whole_chance all low high gap close)

  -- with one draw they are as close as the numbers
  pub one_cell_close : n ≡ 1 → rounded Two (sum_below n (λ d. pos (chance d) *ℤ high d)) ≤ℤ (rounded One (sum_below n (λ d. pos (chance d) *ℤ low d)) +ℤ pos gap)
  one_cell_close one =
      let certain : chance 0 ≡ whole_chance = sym (alone (chance 0)) ∙ sym (ap (λ (k : ℕ). count_below k chance) one) ∙ all in
      let sum_is : (f : ℕ → ℤ) → sum_below n (λ d. pos (chance d) *ℤ f d) ≡ pos whole_chance *ℤ f 0 =
      λ f. ap (λ (k : ℕ). sum_below k (λ d. pos (chance d) *ℤ f d)) one ∙ only (pos (chance 0) *ℤ f 0) ∙ ap (λ (k : ℕ). pos k *ℤ f 0) certain in
      let under = floor_greatest whole_chance (sum_below n (λ d. pos (chance d) *ℤ low d)) (low 0) (omega arith)
      (subst (λ (z : ℤ). (pos whole_chance *ℤ low 0) ≤ℤ z) (sym (sum_is low)) (int_le_refl _)) in
      let over = ceiling_least whole_chance (sum_below n (λ d. pos (chance d) *ℤ high d)) (high 0) (omega arith)
      (subst (λ (z : ℤ). z ≤ℤ (pos whole_chance *ℤ high 0)) (sym (sum_is high)) (int_le_refl _)) in
      let near = close 0 (omega arith) in
      omega (arith, ints)
    where
      alone : (k : ℕ) → 0 + k ≡ k
      alone k = omega arith

      only : (z : ℤ) → pos 0 +ℤ z ≡ z
      only z = omega (arith, ints)
