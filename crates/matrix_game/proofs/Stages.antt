-- Saddles, and what each answer of a stage has.
use Rattle.std.proofs.Common.{◌≡◌, ℕ, ◌+◌, ◌*◌, ◌<◌, ◌≤◌, refl, sym, ap, subst, ◌∙◌, arith, inl, inr, List, length, get_or, cond, nat_eq, replicate, zero, suc, ℤ, pos, ◌*ℤ◌, unsigned_abs}
use Rattle.std.proofs.Math.ListN.{set}
use Rattle.std.proofs.Math.Nat.{mul-le-mul_left, mul-le-mul_right}
use Rattle.std.proofs.lemmas.Int.{ints, unsigned_abs-mul}
use Rattle.std.proofs.lemmas.Nat.{mul-add-lt}
use Rattle.std.proofs.lemmas.Bool.{cases_lt, cases_eq, eq-eqb, ne_eqb}
use Rattle.std.proofs.lemmas.Grind.{same_number_lists}
use Rattle.std.proofs.lemmas.List.{get_or-set_other, get_or-set_same, length-set, get_or-replicate, length-replicate}
use Rattle.std.proofs.lemmas.List.FromFn.{length-map-range_with_len}
use Rattle.sums.specs.Sums.{count_below}
use Rattle.matrix_game.proofs.FirstLemmas.{first_least-below, first_greatest-below}
use Rattle.matrix_game.proofs.Lists.{sum-count}
use Rattle.matrix_game.proofs.Mixtures.{length-mixture_of}
use Rattle.matrix_game.proofs.Law.{weight_before, length-regrets_before, weight-reply_counts, length-reply_counts, get_or-all_on, weight-all_on, stage_law, resolution_of}
use Rattle.matrix_game.proofs.Loop.{floor_before, best_mixture_is}
use Rattle.sums.specs.Sums.{sum_below}
use Rattle.std.specs.Prelude.{Result, Ok, Err, IfOk}
use Rattle.matrix_game.specs.declared.stage.StageError.{StageError}
use Rattle.matrix_game.specs.declared.stage.StagePlans.{StagePlans}
use Rattle.matrix_game.specs.Grid.{Grid, IsShaped, IsMatrix, IsSaddle, IsFirstSaddle, cell_at, column_sum, row_sum, best_reply, row_floor, col_ceiling, first_greatest}
use Rattle.matrix_game.specs.Plans.{AreStagePlans, AreWeighed, IsPureAtSaddle, plans_by}
use Rattle.matrix_game.specs.Rounds.{regrets_before, rounds, all_on, IsStage, pure, mixed, IsWeighted, HasSmallGap}

pub all_on_written : (n i w : ℕ) (xs : List ℕ) → i < n → xs ≡ replicate n 0 → set xs i w ≡ all_on n i w
all_on_written n i w xs h e =
    let l : length xs ≡ n = ap length e ∙ length-replicate n 0 in
    same_number_lists (set xs i w) (all_on n i w) (length-set xs i w ∙ l ∙ sym (length-map-range_with_len (λ k. cond (nat_eq k i) w 0) 0 n))
    (λ k b. let in_n : k < n = omega (arith, length-set xs i w) in
    elim (cases_eq k i) [
      | inl s ↦ let at : i < length xs = omega arith in
          ap (λ j. get_or (set xs i w) j 0) s ∙ get_or-set_same xs i w 0 at ∙ sym (get_or-all_on n i w k in_n ∙ ap (λ t. cond t w 0) (eq-eqb k i s))
      | inr o ↦ get_or-set_other xs i k w 0 o ∙ ap (λ ys. get_or ys k 0) e ∙ get_or-replicate n k 0 0 in_n ∙ sym (get_or-all_on n i w k in_n ∙ ap (λ t. cond t w 0) (ne_eqb k i o))
    ])

-- a saddle is the first if no earlier row has one, and no earlier place of its row
pub first_saddle_from : (m : Grid) (a b : ℕ) → IsSaddle m a b → ((c d : ℕ) → c < a → IsSaddle m c d → ⊥) → ((d : ℕ) → d < b → IsSaddle m a d → ⊥) → IsFirstSaddle m a b
first_saddle_from m a b s rows cols = record {
  saddle = s;
  first = λ c d h.
      elim (cases_lt c a) [
        | inl l ↦ absurd (rows c d l h)
        | inr l ↦ elim (cases_lt a c) [
          | inl k ↦ let up = mul-le-mul_right {m = a + 1} {n = c} m.cols (omega arith) in let in_row = s.col_in in omega (arith, up)
          | inr k ↦ let same : c ≡ a = omega arith in
              elim (cases_lt d b) [
                | inl e ↦ absurd (cols d e (subst (λ (i : ℕ). IsSaddle m i d) same h))
                | inr e ↦ let r = ap (λ i. i * m.cols) same in omega arith
              ]
        ]
      ];
}

-- no saddle before a row, and none in it before a place
pub no_saddle_more : (m : Grid) (a b : ℕ) → ((d : ℕ) → d < b → IsSaddle m a d → ⊥) → (IsSaddle m a b → ⊥) → (d : ℕ) → d < b + 1 → IsSaddle m a d → ⊥
no_saddle_more m a b before here d h s =
    elim (cases_lt d b) [
      | inl l ↦ before d l s
      | inr l ↦ let same : d ≡ b = omega arith in here (subst (λ (i : ℕ). IsSaddle m a i) same s)
    ]

pub no_saddle_row : (m : Grid) (a : ℕ) → ((c d : ℕ) → c < a → IsSaddle m c d → ⊥) → ((d : ℕ) → d < m.cols → IsSaddle m a d → ⊥) → (c d : ℕ) → c < a + 1 → IsSaddle m c d → ⊥
no_saddle_row m a before row c d h s =
    elim (cases_lt c a) [
      | inl l ↦ before c d l s
      | inr l ↦ let same : c ≡ a = omega arith in row d s.col_in (subst (λ (i : ℕ). IsSaddle m i d) same s)
    ]

-- ---- the weights of an answer
all_on-weighted : (n i w : ℕ) → i < n → IsWeighted n w (all_on n i w)
all_on-weighted n i w h =
    let l = length-map-range_with_len (λ k. cond (nat_eq k i) w 0) 0 n in
    record { each = l; all = sum-count (all_on n i w) ∙ ap (λ k. count_below k (λ a. get_or (all_on n i w) a 0)) l ∙ weight-all_on n i w h }

pub written-weighted : (n i w : ℕ) (xs : List ℕ) → i < n → xs ≡ replicate n 0 → IsWeighted n w (set xs i w)
written-weighted n i w xs h e = rw (all_on_written n i w xs h e) (all_on-weighted n i w h)

stage-rows : (m : Grid) (w : ℕ) (p v : List ℕ) → IsShaped m → 0 < w → IsStage m w p v → IsWeighted m.rows w p
stage-rows m w p v s h (pure a b f ep ev) = rw ep (all_on-weighted m.rows a w f.saddle.row_in)
stage-rows m w p v s h (mixed n ep ev) =
    let t = first_greatest w (floor_before m w) in
    let is = ep ∙ best_mixture_is m w h in
    let l : length p ≡ m.rows = ap length is ∙ length-mixture_of w (regrets_before m w t) ∙ length-regrets_before m w t in
    record { each = l; all = sum-count p ∙ ap (λ k. count_below k (λ a. get_or p a 0)) l ∙ ap (λ ys. count_below m.rows (λ a. get_or ys a 0)) is ∙ weight_before m w t s }

stage-cols : (m : Grid) (w : ℕ) (p v : List ℕ) → IsShaped m → IsStage m w p v → IsWeighted m.cols w v
stage-cols m w p v s (pure a b f ep ev) = rw ev (all_on-weighted m.cols b w f.saddle.col_in)
stage-cols m w p v s (mixed n ep ev) =
    let rs = rounds m w in
    let l : length v ≡ m.cols = ap length ev ∙ length-reply_counts m rs in
    record { each = l; all = sum-count v ∙ ap (λ k. count_below k (λ a. get_or v a 0)) l ∙ ap (λ ys. count_below m.cols (λ a. get_or ys a 0)) ev ∙ weight-reply_counts m w s }

-- ---- the sizes of sums
weighted_sum-small : (n c : ℕ) (p : ℕ → ℕ) (z : ℕ → ℤ) → ((a : ℕ) → a < n → unsigned_abs (z a) ≤ c) → unsigned_abs (sum_below n (λ a. pos (p a) *ℤ z a)) ≤ c * count_below n p
weighted_sum-small zero c p z h = omega arith
weighted_sum-small (suc n) c p z h =
    let before = weighted_sum-small n c p z (λ a l. h a (omega arith)) in
    let product = unsigned_abs-mul (pos (p n)) (z n) in
    let last = mul-le-mul_left (p n) (h n (omega arith)) in
    omega (arith, ints, before, product, last)

pub weights_sum : (n w : ℕ) (p : List ℕ) → IsWeighted n w p → count_below n (λ a. get_or p a 0) ≡ w
weights_sum n w p h = ap (λ k. count_below k (λ a. get_or p a 0)) (sym h.each) ∙ sym (sum-count p) ∙ h.all

cell-small : (m : Grid) (a b : ℕ) → IsMatrix m → a < m.rows → b < m.cols → unsigned_abs (cell_at m a b) ≤ 4000000000
cell-small m a b i h k = i.small_cells (a * m.cols + b) (omega (arith, mul-add-lt a m.cols b m.rows h k, i.shaped.all_cells))

pub row_floor-small : (m : Grid) (w : ℕ) (p : List ℕ) → IsMatrix m → IsWeighted m.rows w p → unsigned_abs (row_floor m p) ≤ 4000000000 * w
row_floor-small m w p i h =
    let b = best_reply m p in
    let b_in : b < m.cols = first_least-below m.cols (column_sum m p) (omega (arith, i.shaped.some_col)) in
    let s = weighted_sum-small m.rows 4000000000 (λ a. get_or p a 0) (λ a. cell_at m a b) (λ a l. cell-small m a b i l b_in) in
    omega (arith, s, ap (λ t. 4000000000 * t) (weights_sum m.rows w p h))

pub col_ceiling-small : (m : Grid) (w : ℕ) (v : List ℕ) → IsMatrix m → IsWeighted m.cols w v → unsigned_abs (col_ceiling m v) ≤ 4000000000 * w
col_ceiling-small m w v i h =
    let a = first_greatest m.rows (row_sum m v) in
    let a_in : a < m.rows = first_greatest-below m.rows (row_sum m v) (omega (arith, i.shaped.some_row)) in
    let s = weighted_sum-small m.cols 4000000000 (λ b. get_or v b 0) (λ b. cell_at m a b) (λ b l. cell-small m a b i a_in l) in
    omega (arith, s, ap (λ t. 4000000000 * t) (weights_sum m.cols w v h))

-- plans that keep the stage law
pub plans_of_gap : (m : Grid) (w : ℕ) (plans : StagePlans) → IsMatrix m → AreWeighed m w plans → HasSmallGap m w plans.low plans.high → AreStagePlans m w plans
plans_of_gap m w plans i weighed gap = record {
  rows = weighed.rows;
  cols = weighed.cols;
  low = weighed.low;
  high = weighed.high;
  gap = gap;
  resolution = resolution_of m w plans.low plans.high gap;
  small_low = omega (arith, ints, row_floor-small m w plans.p i weighed.rows, ap unsigned_abs weighed.low);
  small_high = omega (arith, ints, col_ceiling-small m w plans.v i weighed.cols, ap unsigned_abs weighed.high);
}

pub plans_of_stage : (m : Grid) (w : ℕ) (p v : List ℕ) → IsMatrix m → 0 < w → IsStage m w p v → AreStagePlans m w (plans_by m p v)
plans_of_stage m w p v i h stage =
    plans_of_gap m w (plans_by m p v) i
    (record { rows = stage-rows m w p v i.shaped h stage; cols = stage-cols m w p v i.shaped stage; low = refl; high = refl })
    (stage_law m w p v i.shaped stage)

-- an answer by rounds is pure at the first saddle
pub pure_of_stage : (m : Grid) (w : ℕ) (plans : StagePlans) → IsStage m w plans.p plans.v → IsPureAtSaddle m w plans
pure_of_stage m w plans (pure a b first rows cols) c d s = record { row = a; col = b; first = first; rows = rows; cols = cols }
pure_of_stage m w plans (mixed none rows cols) c d s = absurd (none c d s)

pub pure_if_ok : (m : Grid) (w : ℕ) (r : Result StagePlans StageError) → IfOk r (λ plans. IsStage m w plans.p plans.v) → IfOk r (IsPureAtSaddle m w)
pure_if_ok m w (Ok plans) stage = pure_of_stage m w plans stage
pure_if_ok m w (Err e) stage = tt
