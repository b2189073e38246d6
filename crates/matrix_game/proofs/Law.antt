-- The stage law.
use Rattle.std.proofs.Common.{◌≡◌, ℕ, zero, suc, ◌+◌, ◌-◌, ◌*◌, ◌<◌, ◌≤◌, sym, ap, ◌∙◌, arith, inl, inr, List, [], sum_by, count_by, cond, length, get_or, nat_eq, ℤ, pos, negsuc, ◌+ℤ◌, ◌-ℤ◌, ◌*ℤ◌, ◌≤ℤ◌}
use Rattle.std.proofs.Math.Nat.{mul-le-mul, mul-le-mul_left, mul-le-mul_right}
use Rattle.std.proofs.lemmas.Int.{ints}
use Rattle.std.proofs.lemmas.Bool.{cases_eq, eq-eqb, ne_eqb}
use Rattle.std.proofs.lemmas.Nat.{mul-add-lt}
use Rattle.std.proofs.lemmas.List.{get_or-replicate, length-replicate}
use Rattle.std.proofs.lemmas.List.FromFn.{length-map-range_with_len, get_or-map-range_with_len}
use Rattle.std.proofs.lemmas.List.Sums.{get_or-le-sum_by}
use borrow.Author.Differences.{up, down}
use Rattle.sums.specs.Sums.{count_below}
use Rattle.sums.proofs.CountLemmas.{square_cancel, count_same, count_constant}
use Rattle.matrix_game.proofs.FirstLemmas.{first_least-below, first_least-le, first_greatest-below, first_greatest-le}
use Rattle.matrix_game.proofs.Potential.{IsWithin, next_regret}
use Rattle.matrix_game.proofs.Gap.{IsRun, paid_of, row_gap-le, count_of, is_equal, is_equal-same, is_equal-other, picks_one, sum_by_counts, weak_duality}
use Rattle.matrix_game.proofs.Lifting.{IsLifted, lifted_sum, positive_part-lifted}
use Rattle.matrix_game.proofs.Lists.{sum_by-count}
use Rattle.matrix_game.proofs.Mixtures.{mixture_of-adds, weight-mixture_of}
use Rattle.matrix_game.specs.Grid.{Grid, cell_at, column_sum, row_sum, first_greatest, best_reply, row_floor, col_ceiling, IsSaddle, IsShaped, IsSpread}
use Rattle.matrix_game.specs.Rounds.{mixture_of, positive_part, regret_of, regrets_before, Round, round_at, rounds, mixture_at, best_mixture, reply_counts, all_on, pure, mixed, HasSmallGap, HasResolution, ResolutionLaw, StageLaw}

-- ---- lifted cells
-- more than any cell lies below 0
abbrev pub shift_of : Grid → ℕ
shift_of m = sum_by down m.cells

-- a cell and the shift
abbrev pub lifted_at : Grid → ℕ → ℕ → ℕ
lifted_at m a b = up (cell_at m a b) + shift_of m - down (cell_at m a b)

pub place-below : (m : Grid) (a b : ℕ) → IsShaped m → a < m.rows → b < m.cols → a * m.cols + b < length m.cells
place-below m a b s h k = omega (arith, mul-add-lt a m.cols b m.rows h k, s.all_cells)

pub lifted_at-is : (m : Grid) (a b : ℕ) → IsShaped m → a < m.rows → b < m.cols → IsLifted (shift_of m) (cell_at m a b) (lifted_at m a b)
lifted_at-is m a b s h k = omega (arith, get_or-le-sum_by down m.cells (a * m.cols + b) (pos 0) (place-below m a b s h k))

pub lifted_at-within : (m : Grid) (d b : ℕ) → IsShaped m → IsSpread m d → b < m.cols → IsWithin m.rows d (λ a. lifted_at m a b)
lifted_at-within m d b s spread k a c h l =
    let close = spread (a * m.cols + b) (c * m.cols + b) (place-below m a b s h k) (place-below m c b s l k) in
    omega (arith, ints, close, lifted_at-is m a b s h k, lifted_at-is m c b s l k)

-- what weights pay, over lifted cells
pub paid_lifted : (m : Grid) (w b : ℕ) (p : List ℕ) → IsShaped m → b < m.cols → count_below m.rows (λ a. get_or p a 0) ≡ w
    → IsLifted (shift_of m * w) (column_sum m p b) (count_below m.rows (λ a. get_or p a 0 * lifted_at m a b))
paid_lifted m w b p s k e =
    let t = lifted_sum m.rows (shift_of m) (λ a. get_or p a 0) (λ a. cell_at m a b) (λ a. lifted_at m a b) (λ a h. lifted_at-is m a b s h k) in
    omega (arith, t, ap (λ y. shift_of m * y) e)

pub conceded_lifted : (m : Grid) (w a : ℕ) (v : List ℕ) → IsShaped m → a < m.rows → count_below m.cols (λ b. get_or v b 0) ≡ w
    → IsLifted (shift_of m * w) (row_sum m v a) (count_below m.cols (λ b. get_or v b 0 * lifted_at m a b))
conceded_lifted m w a v s h e =
    let t = lifted_sum m.cols (shift_of m) (λ b. get_or v b 0) (λ b. cell_at m a b) (λ b. lifted_at m a b) (λ b k. lifted_at-is m a b s h k) in
    omega (arith, t, ap (λ y. shift_of m * y) e)

-- ---- the rounds as a run
abbrev pub mixture_before : Grid → ℕ → ℕ → List ℕ
mixture_before m w t = mixture_of w (regrets_before m w t)

abbrev pub reply_before : Grid → ℕ → ℕ → ℕ
reply_before m w t = best_reply m (mixture_before m w t)

pub length-regrets_before : (m : Grid) (w t : ℕ) → length (regrets_before m w t) ≡ m.rows
unfolding regrets_before
length-regrets_before m w zero = length-replicate m.rows 0
length-regrets_before m w (suc t) =
    let q = regrets_before m w t in
    let p = mixture_of w q in
    length-map-range_with_len (λ a. positive_part (pos (get_or q a 0) +ℤ regret_of m w (best_reply m p) (row_floor m p) a)) 0 m.rows

pub reply_before-below : (m : Grid) (w t : ℕ) → IsShaped m → reply_before m w t < m.cols
reply_before-below m w t s = first_least-below m.cols (column_sum m (mixture_before m w t)) (omega (arith, s.some_col))

pub weight_before : (m : Grid) (w t : ℕ) → IsShaped m → count_below m.rows (λ a. get_or (mixture_before m w t) a 0) ≡ w
weight_before m w t s = weight-mixture_of m.rows w (regrets_before m w t) (length-regrets_before m w t) (omega (arith, s.some_row))

pub regret_step : (m : Grid) (w t a : ℕ) → IsShaped m → a < m.rows
    → get_or (regrets_before m w (suc t)) a 0 ≡ next_regret m.rows w (λ c. get_or (regrets_before m w t) c 0) (λ c. get_or (mixture_before m w t) c 0) (λ c. lifted_at m c (reply_before m w t)) a
unfolding regrets_before
regret_step m w t a s h =
    let q = regrets_before m w t in
    let p = mixture_of w q in
    let b = best_reply m p in
    let k = reply_before-below m w t s in
    get_or-map-range_with_len (λ a. positive_part (pos (get_or q a 0) +ℤ regret_of m w b (row_floor m p) a)) 0 m.rows a a 0 h (omega arith)
    ∙ positive_part-lifted (get_or q a 0) w (shift_of m) (cell_at m a b) (column_sum m p b) (lifted_at m a b) (count_below m.rows (λ c. get_or p c 0 * lifted_at m c b))
    (lifted_at-is m a b s h k) (paid_lifted m w b p s k (weight_before m w t s))

pub regret_start : (m : Grid) (w a : ℕ) → a < m.rows → get_or (regrets_before m w 0) a 0 ≡ 0
unfolding regrets_before
regret_start m w a h = get_or-replicate m.rows a 0 0 h

pub run_of : (m : Grid) (w d : ℕ) → IsShaped m → IsSpread m d
    → IsRun m.rows w d (λ t a. get_or (regrets_before m w t) a 0) (λ t a. get_or (mixture_before m w t) a 0) (λ t a. lifted_at m a (reply_before m w t))
run_of m w d s spread = record {
  starts = λ a h. regret_start m w a h;
  steps = λ t a l h. regret_step m w t a s h;
  mixes = λ t l. mixture_of-adds m.rows w (regrets_before m w t) (length-regrets_before m w t) (omega (arith, s.some_row));
  within = λ t l. lifted_at-within m d (reply_before m w t) s spread (reply_before-below m w t s);
}

-- ---- the rounds, read by index
pub length-rounds : (m : Grid) (w : ℕ) → length (rounds m w) ≡ w
unfolding rounds
length-rounds m w = length-map-range_with_len (round_at m w) 0 w

pub get_or-rounds : (m : Grid) (w t : ℕ) (r : Round) → t < w → get_or (rounds m w) t r ≡ record { mixture = mixture_before m w t; reply = reply_before m w t }
unfolding rounds round_at
get_or-rounds m w t r h = get_or-map-range_with_len (round_at m w) 0 w t t r h (omega arith)

pub mixture_at-rounds : (m : Grid) (w t : ℕ) → t < w → mixture_at (rounds m w) t ≡ mixture_before m w t
mixture_at-rounds m w t h = ap (λ (r : Round). r.mixture) (get_or-rounds m w t (record { mixture = []; reply = 0 }) h)

-- the best mixture is that of some round, and no round's floor is above its
pub best_round : (m : Grid) (w : ℕ) → 0 < w
    → (s : ℕ) × (s < w) × (best_mixture m (rounds m w) ≡ mixture_before m w s) × ((t : ℕ) → t < w → row_floor m (mixture_before m w t) ≤ℤ row_floor m (mixture_before m w s))
unfolding best_mixture
best_round m w h =
    let rs = rounds m w in
    let floor = λ (t : ℕ). row_floor m (mixture_at rs t) in
    let l = length-rounds m w in
    let s = first_greatest (length rs) floor in
    let below : s < w = omega (arith, first_greatest-below (length rs) floor (omega arith), l) in (
      s,
      below,
      mixture_at-rounds m w s below,
      λ t k. let best = first_greatest-le (length rs) floor t (omega arith) in
          let et = ap (row_floor m) (mixture_at-rounds m w t k) in
          let es = ap (row_floor m) (mixture_at-rounds m w s below) in
          omega (arith, ints, best, et, es),
    )

pub length-reply_counts : (m : Grid) (rs : List Round) → length (reply_counts m rs) ≡ m.cols
unfolding reply_counts
length-reply_counts m rs = length-map-range_with_len (λ b. count_by (λ (r : Round). nat_eq r.reply b) rs) 0 m.cols

-- the counts of the replies
pub get_or-reply_counts : (m : Grid) (w b : ℕ) → b < m.cols → get_or (reply_counts m (rounds m w)) b 0 ≡ count_of w (reply_before m w) b
unfolding reply_counts
get_or-reply_counts m w b h =
    let rs = rounds m w in
    let none : Round = record { mixture = []; reply = 0 } in
    let test : Round → ℕ = λ r. cond (nat_eq r.reply b) 1 0 in
    get_or-map-range_with_len (λ b. count_by (λ (r : Round). nat_eq r.reply b) rs) 0 m.cols b b 0 h (omega arith)
    ∙ sum_by-count test rs none
    ∙ ap (λ n. count_below n (λ t. test (get_or rs t none))) (length-rounds m w)
    ∙ count_same w (λ t. test (get_or rs t none)) (λ t. is_equal (reply_before m w t) b) (λ t k. ap test (get_or-rounds m w t none k))

-- they have the whole weight
pub weight-reply_counts : (m : Grid) (w : ℕ) → IsShaped m → count_below m.cols (λ b. get_or (reply_counts m (rounds m w)) b 0) ≡ w
weight-reply_counts m w s =
    let j = reply_before m w in
    let ones = sum_by_counts w m.cols j (λ b. 1) (λ t h. reply_before-below m w t s) in
    let same = count_same m.cols (λ b. get_or (reply_counts m (rounds m w)) b 0) (λ b. count_of w j b * 1) (λ b h. get_or-reply_counts m w b h ∙ omega arith) in
    omega (arith, same, ones, count_constant w 1)

-- what they concede in a row is what the row gets over the rounds
pub conceded_by_counts : (m : Grid) (w a : ℕ) → IsShaped m
    → count_below m.cols (λ b. get_or (reply_counts m (rounds m w)) b 0 * lifted_at m a b) ≡ count_below w (λ t. lifted_at m a (reply_before m w t))
conceded_by_counts m w a s =
    let j = reply_before m w in
    let same = count_same m.cols (λ b. get_or (reply_counts m (rounds m w)) b 0 * lifted_at m a b) (λ b. count_of w j b * lifted_at m a b)
    (λ b h. ap (λ y. y * lifted_at m a b) (get_or-reply_counts m w b h)) in
    same ∙ sym (sum_by_counts w m.cols j (λ b. lifted_at m a b) (λ t h. reply_before-below m w t s))

-- ---- the law
row_gap_at : (n w d low : ℕ) (q p g : ℕ → ℕ → ℕ) → 0 < n → IsRun n w d q p g → 8 * (n * n) ≤ w → ((t : ℕ) → t < w → paid_of n p g t ≤ low)
    → (a : ℕ) → a < n → (count_below w (λ s. g s a) - low) * (count_below w (λ s. g s a) - low) ≤ 2 * (n * (w * (d * d)))
row_gap_at zero w d low q p g h run large best a l = absurd (omega arith)
row_gap_at (suc n) w d low q p g h run large best a l = row_gap-le n w d low q p g run large best a l

-- a gap between sums that lie equally far below natural numbers
gap_squared : (ceiling floor : ℤ) (c low high bound : ℕ) → IsLifted c ceiling high → IsLifted c floor low → low ≤ high → (high - low) * (high - low) ≤ bound
    → ((ceiling -ℤ floor) *ℤ (ceiling -ℤ floor)) ≤ℤ pos bound
gap_squared ceiling floor c low high bound h l o b =
    let x = high - low in
    let e : ceiling -ℤ floor ≡ pos x = omega (arith, ints) in
    rw e (let f : (pos x *ℤ pos x) ≤ℤ pos bound = omega (arith, ints) in f)

positive_weight : (n w : ℕ) → 1 ≤ n → 8 * (n * n) ≤ w → 0 < w
positive_weight n w h l = let e : 1 * 1 ≤ n * n = mul-le-mul h h in omega arith

pub mixed_law : (m : Grid) (w d : ℕ) (p v : List ℕ) → IsShaped m → IsSpread m d → 8 * (m.rows * m.rows) ≤ w → p ≡ best_mixture m (rounds m w) → v ≡ reply_counts m (rounds m w)
    → ((col_ceiling m v -ℤ row_floor m p) *ℤ (col_ceiling m v -ℤ row_floor m p)) ≤ℤ pos (2 * (m.rows * (w * (d * d))))
mixed_law m w d p v s spread large ep ev =
    let n = m.rows in
    let k = m.cols in
    let positive = positive_weight n w s.some_row large in
    let r = best_round m w positive in
    let mix = λ (t a : ℕ). get_or (mixture_before m w t) a 0 in
    let col = λ (t a : ℕ). lifted_at m a (reply_before m w t) in
    let floor_at = λ (t : ℕ). paid_lifted m w (reply_before m w t) (mixture_before m w t) s (reply_before-below m w t s) (weight_before m w t s) in
    let low = paid_of n mix col r.0 in
    let best : (t : ℕ) → t < w → paid_of n mix col t ≤ low = λ t h. omega (arith, ints, r.3 t h, floor_at t, floor_at r.0) in
    let counts = reply_counts m (rounds m w) in
    let top = first_greatest n (row_sum m counts) in
    let top_in : top < n = first_greatest-below n (row_sum m counts) (omega (arith, s.some_row)) in
    let high = count_below w (λ t. lifted_at m top (reply_before m w t)) in
    let weight = weight-reply_counts m w s in
    let conceded_at = λ (a : ℕ) (h : a < n). conceded_lifted m w a counts s h weight in
    let ceiling : IsLifted (shift_of m * w) (row_sum m counts top) high = omega (arith, conceded_at top top_in, conceded_by_counts m w top s) in
    let floor : IsLifted (shift_of m * w) (row_floor m (mixture_before m w r.0)) low = floor_at r.0 in
    let bounded = row_gap_at n w d low (λ t a. get_or (regrets_before m w t) a 0) mix col (omega (arith, s.some_row)) (run_of m w d s spread) large best top top_in in
    let lows : (b : ℕ) → b < k → low ≤ count_below n (λ a. mix r.0 a * lifted_at m a b) = λ b h.
    omega (arith, ints, first_least-le k (column_sum m (mixture_before m w r.0)) b h, floor, paid_lifted m w b (mixture_before m w r.0) s h (weight_before m w r.0 s)) in
    let highs : (a : ℕ) → a < n → count_below k (λ b. get_or counts b 0 * lifted_at m a b) ≤ high = λ a h.
    omega (arith, ints, first_greatest-le n (row_sum m counts) a h, ceiling, conceded_at a h) in
    let ordered = weak_duality n k w low high (mix r.0) (λ b. get_or counts b 0) (lifted_at m) (weight_before m w r.0 s) weight positive lows highs in
    let ef = ap (row_floor m) (ep ∙ r.2) in
    let ec = ap (col_ceiling m) ev in
    let fl : IsLifted (shift_of m * w) (row_floor m p) low = rw ef floor in
    let ce : IsLifted (shift_of m * w) (col_ceiling m v) high = rw ec ceiling in
    gap_squared (col_ceiling m v) (row_floor m p) (shift_of m * w) low high (2 * (n * (w * (d * d)))) ce fl ordered bounded

-- ---- the law at a saddle
pub get_or-all_on : (n i w a : ℕ) → a < n → get_or (all_on n i w) a 0 ≡ cond (nat_eq a i) w 0
get_or-all_on n i w a h = get_or-map-range_with_len (λ k. cond (nat_eq k i) w 0) 0 n a a 0 h (omega arith)

all_on-is : (n i w a : ℕ) → a < n → get_or (all_on n i w) a 0 ≡ is_equal i a * w
all_on-is n i w a h =
    get_or-all_on n i w a h
    ∙ elim (cases_eq a i) [
      | inl e ↦ ap (λ t. cond t w 0) (eq-eqb a i e) ∙ (let o = is_equal-same i a (sym e) in omega (arith, ap (λ y. y * w) o))
      | inr e ↦ ap (λ t. cond t w 0) (ne_eqb a i e) ∙ (let o = is_equal-other i a (λ f. e (sym f)) in omega (arith, ap (λ y. y * w) o))
    ]

-- what pure weights pay
paid-all_on : (n i w : ℕ) (g : ℕ → ℕ) → i < n → count_below n (λ a. get_or (all_on n i w) a 0 * g a) ≡ w * g i
paid-all_on n i w g h =
    count_same n (λ a. get_or (all_on n i w) a 0 * g a) (λ a. is_equal i a * (w * g a)) (λ a l. omega (arith, ap (λ y. y * g a) (all_on-is n i w a l)))
    ∙ picks_one n i (λ a. w * g a) h

pub weight-all_on : (n i w : ℕ) → i < n → count_below n (λ a. get_or (all_on n i w) a 0) ≡ w
weight-all_on n i w h =
    let one = paid-all_on n i w (λ a. 1) h in
    omega (arith, one, count_same n (λ a. get_or (all_on n i w) a 0 * 1) (λ a. get_or (all_on n i w) a 0) (λ a l. omega arith))

pub pure_law : (m : Grid) (w bound a b : ℕ) (p v : List ℕ) → IsShaped m → IsSaddle m a b → p ≡ all_on m.rows a w → v ≡ all_on m.cols b w
    → ((col_ceiling m v -ℤ row_floor m p) *ℤ (col_ceiling m v -ℤ row_floor m p)) ≤ℤ pos bound
pure_law m w bound a b p v s saddle ep ev =
    let n = m.rows in
    let k = m.cols in
    let rows = all_on n a w in
    let cols = all_on k b w in
    let worth = w * lifted_at m a b in
    let reply = best_reply m rows in
    let reply_in : reply < k = first_least-below k (column_sum m rows) (omega (arith, s.some_col)) in
    let top = first_greatest n (row_sum m cols) in
    let top_in : top < n = first_greatest-below n (row_sum m cols) (omega (arith, s.some_row)) in
    let c = shift_of m in
    let paid : (j : ℕ) → j < k → IsLifted (c * w) (column_sum m rows j) (w * lifted_at m a j) = λ j h.
    omega (arith, paid_lifted m w j rows s h (weight-all_on n a w saddle.row_in), paid-all_on n a w (λ i. lifted_at m i j) saddle.row_in) in
    let conceded : (i : ℕ) → i < n → IsLifted (c * w) (row_sum m cols i) (w * lifted_at m i b) = λ i h.
    omega (arith, conceded_lifted m w i cols s h (weight-all_on k b w saddle.col_in), paid-all_on k b w (λ j. lifted_at m i j) saddle.col_in) in
    let here = lifted_at-is m a b s saddle.row_in saddle.col_in in
    let row_least : lifted_at m a b ≤ lifted_at m a reply = omega (arith, ints, saddle.least_in_row reply reply_in, here, lifted_at-is m a reply s saddle.row_in reply_in) in
    let col_greatest : lifted_at m top b ≤ lifted_at m a b = omega (arith, ints, saddle.greatest_in_col top top_in, here, lifted_at-is m top b s top_in saddle.col_in) in
    let below = first_least-le k (column_sum m rows) b saddle.col_in in
    let above = first_greatest-le n (row_sum m cols) a saddle.row_in in
    let floor : IsLifted (c * w) (row_floor m rows) worth =
    omega (arith, ints, below, paid reply reply_in, paid b saddle.col_in, mul-le-mul_left w row_least) in
    let ceiling : IsLifted (c * w) (col_ceiling m cols) worth =
    omega (arith, ints, above, conceded top top_in, conceded a saddle.row_in, mul-le-mul_left w col_greatest) in
    let fl : IsLifted (c * w) (row_floor m p) worth = rw (ap (row_floor m) ep) floor in
    let ce : IsLifted (c * w) (col_ceiling m v) worth = rw (ap (col_ceiling m) ev) ceiling in
    let none : worth - worth ≡ 0 = omega arith in
    gap_squared (col_ceiling m v) (row_floor m p) (c * w) worth worth bound ce fl (omega arith) (rw none (omega arith))

pub stage_law : StageLaw
stage_law m w p v s (pure a b h ep ev) d spread large = pure_law m w (2 * (m.rows * (w * (d * d)))) a b p v s h.saddle ep ev
stage_law m w p v s (mixed h ep ev) d spread large = mixed_law m w d p v s spread large ep ev

-- a number whose square is at most that of x is at most x
root_signed : (z : ℤ) (x : ℕ) → (z *ℤ z) ≤ℤ pos (x * x) → z ≤ℤ pos x
root_signed (pos n) x h = let s : n * n ≤ x * x = omega (arith, ints) in let r = square_cancel n x s in omega (arith, ints)
root_signed (negsuc n) x h = omega (arith, ints)

-- the law as a difference
pub resolution_of : (m : Grid) (w : ℕ) (low high : ℤ) → HasSmallGap m w low high → HasResolution m w low high
resolution_of m w low high small n d q few spread large enough =
    let rows = mul-le-mul few few in
    let gap = small d spread (omega (arith, rows)) in
    let more = mul-le-mul_right (2 * (w * (d * d))) few in
    let times = mul-le-mul_left w enough in
    let z = high -ℤ low in
    let square : (z *ℤ z) ≤ℤ pos (w * q * (w * q)) = le_pos (z *ℤ z) (2 * (m.rows * (w * (d * d)))) (w * q * (w * q)) gap (omega (arith, more, times)) in
    let root = root_signed z (w * q) square in
    omega (arith, ints)
  where
    le_pos : (y : ℤ) (a b : ℕ) → y ≤ℤ pos a → a ≤ b → y ≤ℤ pos b
    le_pos y a b h l = omega (arith, ints)

pub resolution_law : ResolutionLaw
resolution_law m w p v s stage = resolution_of m w (row_floor m p) (col_ceiling m v) (stage_law m w p v s stage)
