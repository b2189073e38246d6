-- What the weights of a plan are in a state.
use Rattle.std.proofs.Common.{◌≡◌, ℕ, zero, suc, ◌+◌, ◌<◌, ◌≤◌, Bool, true, false, cond, ◌&&◌, eqb, ℤ, pos, ◌+ℤ◌, ◌*ℤ◌, List, [], ◌∷◌, length, get_or, sum, replicate, refl, ap, subst, ◌∙◌, ◌-◌, inl, inr, add-zero, zero-add, arith}
use Rattle.std.proofs.lemmas.Bool.{cases_eq}
use Rattle.std.proofs.lemmas.Bool.Decides.{nat_tests}
use Rattle.std.proofs.lemmas.Int.{ints}
use Rattle.std.proofs.Math.IntN.{+ℤ_idl, +ℤ_idr}
use Rattle.std.proofs.lemmas.List.Sums.{sum_by-cons}
use Rattle.sim_game.specs.declared.Side.{Side}
use Rattle.sim_game.specs.Model.{GameModel, Turn}
use Rattle.sums.specs.Sums.{sum_below, count_below}
use Rattle.sums.proofs.CountLemmas.{count_list}
use Rattle.sums.proofs.SumLemmas.{sum_first, sum_same, sum_none}
use Rattle.plan_book.specs.Plans.{Plan, PlanRow, AreWeights, is_place, one_move, row_weights, weights_at}

none : (x : ℤ) → pos 0 *ℤ x ≡ pos 0
none x = omega (arith, ints)

no_weights : (n : ℕ) → AreWeights n 0 (replicate n 0)
no_weights zero = record { one_each = refl; sums = refl }
no_weights (suc n) = let rest = no_weights n in record {
  one_each = ap suc rest.one_each;
  sums = sum_by-cons (λ x. x) 0 (replicate n 0) ∙ zero-add _ ∙ rest.sums;
}

pub one_move_fits : (total count place : ℕ) → place < count → AreWeights count total (one_move total count place)
one_move_fits total zero place h = absurd (omega arith)
one_move_fits total (suc count) zero h = let rest = no_weights count in record {
  one_each = ap suc rest.one_each;
  sums = sum_by-cons (λ x. x) total (replicate count 0) ∙ ap (λ n. total + n) rest.sums ∙ add-zero total;
}
one_move_fits total (suc count) (suc place) h = let rest = one_move_fits total count place (omega arith) in record {
  one_each = ap suc rest.one_each;
  sums = sum_by-cons (λ x. x) 0 (one_move total count place) ∙ zero-add _ ∙ rest.sums;
}

no_weight : (n i : ℕ) → get_or {A = ℕ} (replicate n 0) i 0 ≡ 0
no_weight zero i = refl
no_weight (suc n) zero = refl
no_weight (suc n) (suc i) = no_weight n i

-- the sum of numbers weighted so
pub one_move_sum : (total count place : ℕ) (f : ℕ → ℤ) → place < count → sum_below count (λ i. pos (get_or (one_move total count place) i 0) *ℤ f i) ≡ pos total *ℤ f place
one_move_sum total zero place f h = absurd (omega arith)
one_move_sum total (suc count) zero f h =
    sum_first count (λ i. pos (get_or (one_move total (suc count) zero) i 0) *ℤ f i)
    ∙ ap (λ (x : ℤ). pos total *ℤ f 0 +ℤ x)
    (sum_same count _ (λ _. pos 0) (λ i _. ap (λ (k : ℕ). pos k *ℤ f (suc i)) (no_weight count i) ∙ none (f (suc i))) ∙ sum_none count)
    ∙ +ℤ_idr (pos total *ℤ f 0)
one_move_sum total (suc count) (suc place) f h =
    sum_first count (λ i. pos (get_or (one_move total (suc count) (suc place)) i 0) *ℤ f i)
    ∙ ap (λ (x : ℤ). x +ℤ sum_below count (λ i. pos (get_or (one_move total count place) i 0) *ℤ f (suc i))) (none (f 0))
    ∙ +ℤ_idl _
    ∙ one_move_sum total count place (λ i. f (suc i)) (omega arith)

pub is_same : (x y : ℕ) → x ≡ y → eqb x y ≡ true
is_same x y h = grind (arith, nat_tests)

pub is_other : (x y : ℕ) → ¬ (x ≡ y) → eqb x y ≡ false
is_other x y h = grind (arith, nat_tests)

tested : (place : Bool) (weights rest : List ℕ) (count total : ℕ) → AreWeights count total rest
    → AreWeights count total (cond (place && (eqb (length weights) count && eqb (sum weights) total)) weights rest)
tested false weights rest count total h = h
tested true weights rest count total h =
    elim (cases_eq (length weights) count) [
      | inl same ↦ elim (cases_eq (sum weights) total) [
        | inl whole ↦ rw (is_same _ _ same, is_same _ _ whole) record { one_each = same; sums = whole }
        | inr other ↦ rw (is_same _ _ same, is_other _ _ other) h
      ]
      | inr other ↦ rw (is_other _ _ other) h
    ]

pub row_weights_fit : (rows : List PlanRow) (key : ℕ) (history : List Turn) (others total : ℕ) → AreWeights (suc others) total (row_weights rows key history (suc others) total)
row_weights_fit [] key history others total = one_move_fits total (suc others) 0 (omega arith)
row_weights_fit (r ∷ rows) key history others total = tested (is_place r.place key history) r.weights _ (suc others) total (row_weights_fit rows key history others total)

-- the weights at a state that has moves sum to the total
pub weights_count : {S : Type 0} (m : GameModel S) (side : Side) (plan : Plan) (s : S) (history : List Turn) → 1 ≤ m.moves side s
    → count_below (m.moves side s) (λ i. get_or (weights_at m side plan s history) i 0) ≡ plan.total
weights_count m side plan s history h =
    let others : ℕ = m.moves side s - 1 in
    let count : m.moves side s ≡ suc others = omega arith in
    let fit : AreWeights (m.moves side s) plan.total (weights_at m side plan s history) =
    rw count (row_weights_fit plan.rows (m.key s) history others plan.total) in
    subst (λ (n : ℕ). count_below n (λ i. get_or (weights_at m side plan s history) i 0) ≡ plan.total) fit.one_each (count_list (weights_at m side plan s history) ∙ fit.sums)
