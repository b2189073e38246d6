-- Cells as heights above the least one: their list, and what weights pay over them.
use Rattle.std.proofs.Common.{◌≡◌, ℕ, zero, suc, ◌+◌, ◌*◌, ◌/◌, ◌%◌, ◌<◌, ◌≤◌, sym, refl, ap, ◌∙◌, arith, inl, inr, List, [], ◌∷◌, ◌++◌, length, get_or, ℤ, pos, ◌+ℤ◌, ◌*ℤ◌, unsigned_abs}
use Rattle.std.proofs.Math.Nat.{mul-le-mul}
use Rattle.std.proofs.lemmas.Int.{ints, unsigned_abs-mul}
use Rattle.std.proofs.lemmas.Nat.{div-mul-add, mod-mul-add}
use Rattle.std.proofs.lemmas.Bool.{cases_lt}
use Rattle.std.proofs.lemmas.List.{get_or_append_left}
use Rattle.std.proofs.Math.Seq.{get_or-append_seam}
use Rattle.sums.specs.Sums.{sum_below, count_below}
use Rattle.sums.proofs.CountLemmas.{count_more}
use Rattle.sums.proofs.IntegerLemmas.{times_add}
use Rattle.sums.proofs.SumLemmas.{sum_same, sum_add, sum_weights}
use Rattle.matrix_game.proofs.FirstLemmas.{first_least-below}
use Rattle.matrix_game.proofs.ShiftLemmas.{least-shifted}
use Rattle.matrix_game.proofs.Stages.{row_floor-small, weights_sum}
use Rattle.matrix_game.specs.Rounds.{IsWeighted}
use Rattle.matrix_game.specs.Grid.{Grid, IsMatrix, cell_at, column_sum, first_least, best_reply, row_floor}
use Rattle.matrix_game.specs.Heights.{AreHeights}

-- ---- the list of the heights, as a loop writes it
pub one_more_height : (m : Grid) (k : ℤ) (width place h : ℕ) (hs : List ℕ) → m.cols ≤ width → length hs ≡ place
    → ((a b : ℕ) → a * width + b < place → b < m.cols → cell_at m a b ≡ pos (get_or hs (a * width + b) 0) +ℤ k)
    → (place % width < m.cols → cell_at m (place / width) (place % width) ≡ pos h +ℤ k)
    → (a b : ℕ) → a * width + b < place + 1 → b < m.cols → cell_at m a b ≡ pos (get_or (hs ++ h ∷ []) (a * width + b) 0) +ℤ k
one_more_height m k width place h hs wide e before here a b l in_row =
    elim (cases_lt (a * width + b) place) [
      | inl early ↦ before a b early in_row ∙ ap (λ x. pos x +ℤ k) (sym (get_or_append_left hs (h ∷ []) 0 (a * width + b) (omega (arith, e))))
      | inr late ↦
          let at : place ≡ a * width + b = omega arith in
          let row : place / width ≡ a = ap (λ n. n / width) at ∙ div-mul-add a width b (omega arith) in
          let col : place % width ≡ b = ap (λ n. n % width) at ∙ mod-mul-add a width b (omega arith) in
          let read : get_or (hs ++ h ∷ []) (a * width + b) 0 ≡ h = ap (λ n. get_or (hs ++ h ∷ []) n 0) (sym at ∙ sym e) ∙ get_or-append_seam hs h [] 0 in
          ap (λ n. cell_at m n b) (sym row) ∙ ap (λ n. cell_at m (place / width) n) (sym col) ∙ here (omega (arith, col)) ∙ ap (λ x. pos x +ℤ k) (sym read)
    ]

-- ---- a sum so far, with one more row
pub one_more_row : (f : ℕ → ℕ) (row old new part : ℕ) → old ≡ count_below row f → new ≡ old + part → f row ≡ part → new ≡ count_below (row + 1) f
one_more_row f row old new part e n p = omega (arith, count_more row f, e, n, p)

-- ---- what weights pay
sum_natural : (n : ℕ) (p h : ℕ → ℕ) → sum_below n (λ a. pos (p a) *ℤ pos (h a)) ≡ pos (count_below n (λ a. p a * h a))
sum_natural zero p h = refl
sum_natural (suc n) p h = omega (arith, ints, sum_natural n p h)

abbrev pub lifted_sum_of : Grid → ℕ → List ℕ → List ℕ → ℕ → ℕ
lifted_sum_of m width hs p b = count_below m.rows (λ a. get_or p a 0 * get_or hs (a * width + b) 0)

column-heights : (m : Grid) (k : ℤ) (width w b : ℕ) (hs p : List ℕ) → AreHeights m k width hs → count_below m.rows (λ a. get_or p a 0) ≡ w → b < m.cols
    → column_sum m p b ≡ pos (lifted_sum_of m width hs p b) +ℤ (pos w *ℤ k)
column-heights m k width w b hs p are e h =
    let x = λ (a : ℕ). pos (get_or p a 0) *ℤ pos (get_or hs (a * width + b) 0) in
    let y = λ (a : ℕ). pos (get_or p a 0) *ℤ k in
    sum_same m.rows (λ a. pos (get_or p a 0) *ℤ cell_at m a b) (λ a. x a +ℤ y a)
    (λ a l. ap (λ z. pos (get_or p a 0) *ℤ z) (are.cells a b l h) ∙ times_add (get_or p a 0) (pos (get_or hs (a * width + b) 0)) k)
    ∙ sum_add m.rows x y
    ∙ ap (λ z. z +ℤ sum_below m.rows y) (sum_natural m.rows (λ a. get_or p a 0) (λ a. get_or hs (a * width + b) 0))
    ∙ ap (λ z. pos (lifted_sum_of m width hs p b) +ℤ z) (sum_weights m.rows (λ a. get_or p a 0) k ∙ ap (λ n. pos n *ℤ k) e)

-- the first least sum over the heights is the best reply, and what it pays
pub reply-heights : (m : Grid) (k : ℤ) (width w col : ℕ) (hs p sums : List ℕ) → AreHeights m k width hs → 0 < m.cols → count_below m.rows (λ a. get_or p a 0) ≡ w
    → ((b : ℕ) → b < width → get_or sums b 0 ≡ lifted_sum_of m width hs p b) → col ≡ first_least m.cols (λ b. pos (get_or sums b 0))
    → (col ≡ best_reply m p) × (row_floor m p ≡ pos (get_or sums col 0) +ℤ (pos w *ℤ k))
reply-heights m k width w col hs p sums are some e s at =
    let f = λ (b : ℕ). pos (get_or sums b 0) in
    let wide = are.all_cols in
    let each : (b : ℕ) → b < m.cols → column_sum m p b ≡ f b +ℤ (pos w *ℤ k) = λ b h.
    column-heights m k width w b hs p are e h ∙ ap (λ x. pos x +ℤ (pos w *ℤ k)) (sym (s b (omega arith))) in
    let same = least-shifted m.cols (pos w *ℤ k) f (column_sum m p) each in
    let is : col ≡ best_reply m p = at ∙ sym same in
    let in_cols : col < m.cols = omega (arith, at, first_least-below m.cols f some) in
    (is, ap (column_sum m p) (sym is) ∙ each col in_cols)

-- the reply that was found, and how much is added for it
pub record IsFound (m : Grid) (k : ℤ) (w col sum : ℕ) (p : List ℕ) : Type 0 where
  pub is_reply : col ≡ best_reply m p
  pub floor : row_floor m p ≡ pos sum +ℤ (pos w *ℤ k)
  pub small_floor : unsigned_abs (row_floor m p) ≤ 4194304000000000
  pub small_sum : sum ≤ 8388608000000000

pub found : (m : Grid) (k : ℤ) (width w rows cols col : ℕ) (hs p sums : List ℕ) → IsMatrix m → AreHeights m k width hs → unsigned_abs k ≤ 4000000000
    → rows ≡ m.rows → cols ≡ m.cols → IsWeighted m.rows w p → w ≤ 1048576
    → ((b : ℕ) → b < width → get_or sums b 0 ≡ count_below rows (λ a. get_or p a 0 * get_or hs (a * width + b) 0)) → col ≡ first_least cols (λ b. pos (get_or sums b 0))
    → IsFound m k w col (get_or sums col 0) p
found m k width w rows cols col hs p sums matrix are small er ec weighted light each at =
    let some : 0 < m.cols = omega (arith, matrix.shaped.some_col) in
    let both = reply-heights m k width w col hs p sums are some (weights_sum m.rows w p weighted)
    (λ b h. each b h ∙ ap (λ n. count_below n (λ a. get_or p a 0 * get_or hs (a * width + b) 0)) er) (at ∙ ap (λ n. first_least n (λ b. pos (get_or sums b 0))) ec) in
    let low : unsigned_abs (row_floor m p) ≤ 4194304000000000 = omega (arith, row_floor-small m w p matrix weighted) in
    let product = unsigned_abs-mul (pos w) k in
    let large = mul-le-mul light small in
    let added : unsigned_abs (pos w *ℤ k) ≤ 4194304000000000 = omega (arith, ints, product, large) in
    record {
      is_reply = both.0;
      floor = both.1;
      small_floor = low;
      small_sum = let e = both.1 in omega (arith, ints, low, added, e);
    }
