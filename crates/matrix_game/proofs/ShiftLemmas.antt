-- The shift law: one number added to every cell changes no round.
use Rattle.std.proofs.Common.{◌≡◌, ◌↔◌, ℕ, zero, suc, ◌+◌, ◌*◌, ◌<◌, sym, refl, subst, ap, ◌∙◌, arith, List, [], ◌∷◌, map, length, get_or, cond, ℤ, pos, neg_ℤ, ◌+ℤ◌, ◌-ℤ◌, ◌*ℤ◌, int_lt, ext_get_or}
use Rattle.std.proofs.lemmas.Int.{ints}
use Rattle.std.proofs.lemmas.List.{get_or-map, length-map}
use Rattle.std.proofs.lemmas.List.FromFn.{fill_by_all, length-map-range_with_len, get_or-map-range_with_len}
use Rattle.std.specs.List.{range_with_len}
use Rattle.sums.specs.Sums.{count_below}
use Rattle.sums.proofs.IntegerLemmas.{times_add}
use Rattle.sums.proofs.SumLemmas.{sum_same, sum_add, sum_weights}
use Rattle.matrix_game.proofs.FirstLemmas.{first_least-below, first_least-one}
use Rattle.matrix_game.proofs.Law.{place-below, weight_before, mixture_before, length-rounds, mixture_at-rounds}
use Rattle.matrix_game.specs.Grid.{Grid, cell_at, column_sum, first_least, first_greatest, best_reply, row_floor, IsShaped, IsSaddle}
use Rattle.matrix_game.specs.Rounds.{mixture_of, regret_of, raised_regret, raised_regrets, regrets_before, Round, round_at, rounds, mixture_at, best_mixture, reply_counts, positive_part, IsStage, pure, mixed}
use Rattle.matrix_game.specs.Memories.{raised_grid}
use Rattle.matrix_game.specs.Shifts.{shifted, ShiftLaw}

-- ---- numbers that are all raised by one
int_lt-shifted : (x y c : ℤ) → int_lt (x +ℤ c) (y +ℤ c) ≡ int_lt x y
int_lt-shifted x y c = grind (arith, ints)

pub least-shifted : (n : ℕ) (c : ℤ) (f g : ℕ → ℤ) → ((t : ℕ) → t < n → g t ≡ f t +ℤ c) → first_least n g ≡ first_least n f
least-shifted zero c f g h = refl
least-shifted (suc zero) c f g h = first_least-one g ∙ sym (first_least-one f)
least-shifted (suc (suc n)) c f g h =
    let before = least-shifted (suc n) c f g (λ t l. h t (omega arith)) in
    let i = first_least (suc n) f in
    let below = first_least-below (suc n) f (omega arith) in
    ap (λ k. cond (int_lt (g (suc n)) (g k)) (suc n) k) before
    ∙ ap (λ z. cond (int_lt (g (suc n)) z) (suc n) i) (h i (omega arith))
    ∙ ap (λ z. cond (int_lt z (f i +ℤ c)) (suc n) i) (h (suc n) (omega arith))
    ∙ ap (λ t. cond t (suc n) i) (int_lt-shifted (f (suc n)) (f i) c)

greatest-shifted : (n : ℕ) (c : ℤ) (f g : ℕ → ℤ) → ((t : ℕ) → t < n → g t ≡ f t +ℤ c) → first_greatest n g ≡ first_greatest n f
greatest-shifted n c f g h = least-shifted n (neg_ℤ c) (λ i. neg_ℤ (f i)) (λ i. neg_ℤ (g i)) (λ t l. let e = h t l in omega (arith, ints))

same_made : (n : ℕ) (f g : ℕ → ℕ) → ((a : ℕ) → a < n → f a ≡ g a) → map f (range_with_len 0 n) ≡ map g (range_with_len 0 n)
same_made n f g h = fill_by_all g (map f (range_with_len 0 n)) n 0 (length-map-range_with_len f 0 n) (λ k l. get_or-map-range_with_len f 0 n k k 0 l (omega arith) ∙ h k l)

same_map : {X Y : Type 0} (f g : X → Y) → ((x : X) → f x ≡ g x) → (xs : List X) → map f xs ≡ map g xs
same_map f g h [] = refl
same_map f g h (x ∷ xs) = ap (λ y. y ∷ map f xs) (h x) ∙ ap (λ ys. g x ∷ ys) (same_map f g h xs)

-- ---- what weights pay
cell-shifted : (k : ℤ) (m : Grid) (a b : ℕ) → IsShaped m → a < m.rows → b < m.cols → cell_at (shifted k m) a b ≡ cell_at m a b +ℤ k
cell-shifted k m a b s h l = get_or-map (λ z. z +ℤ k) m.cells (a * m.cols + b) (pos 0) (pos 0) (place-below m a b s h l)

column-shifted : (k : ℤ) (m : Grid) (w b : ℕ) (p : List ℕ) → IsShaped m → count_below m.rows (λ a. get_or p a 0) ≡ w → b < m.cols → column_sum (shifted k m) p b ≡ column_sum m p b +ℤ (pos w *ℤ k)
column-shifted k m w b p s e h =
    let x = λ (a : ℕ). pos (get_or p a 0) *ℤ cell_at m a b in
    let y = λ (a : ℕ). pos (get_or p a 0) *ℤ k in
    sum_same m.rows (λ a. pos (get_or p a 0) *ℤ cell_at (shifted k m) a b) (λ a. x a +ℤ y a)
    (λ a l. ap (λ z. pos (get_or p a 0) *ℤ z) (cell-shifted k m a b s l h) ∙ times_add (get_or p a 0) (cell_at m a b) k)
    ∙ sum_add m.rows x y
    ∙ ap (λ z. column_sum m p b +ℤ z) (sum_weights m.rows (λ a. get_or p a 0) k ∙ ap (λ n. pos n *ℤ k) e)

reply-shifted : (k : ℤ) (m : Grid) (w : ℕ) (p : List ℕ) → IsShaped m → count_below m.rows (λ a. get_or p a 0) ≡ w → best_reply (shifted k m) p ≡ best_reply m p
reply-shifted k m w p s e = least-shifted m.cols (pos w *ℤ k) (column_sum m p) (column_sum (shifted k m) p) (λ b h. column-shifted k m w b p s e h)

reply-below : (m : Grid) (p : List ℕ) → IsShaped m → best_reply m p < m.cols
reply-below m p s = first_least-below m.cols (column_sum m p) (omega (arith, s.some_col))

floor-shifted : (k : ℤ) (m : Grid) (w : ℕ) (p : List ℕ) → IsShaped m → count_below m.rows (λ a. get_or p a 0) ≡ w → row_floor (shifted k m) p ≡ row_floor m p +ℤ (pos w *ℤ k)
floor-shifted k m w p s e = ap (column_sum (shifted k m) p) (reply-shifted k m w p s e) ∙ column-shifted k m w (best_reply m p) p s e (reply-below m p s)

-- ---- the rounds
difference-shifted : (x y c : ℤ) → (x +ℤ c) -ℤ (y +ℤ c) ≡ x -ℤ y
difference-shifted x y c = omega (arith, ints)

regret-shifted : (k : ℤ) (m : Grid) (w b a : ℕ) (paid : ℤ) → IsShaped m → a < m.rows → b < m.cols → regret_of (shifted k m) w b (paid +ℤ (pos w *ℤ k)) a ≡ regret_of m w b paid a
regret-shifted k m w b a paid s h l =
    ap (λ z. (pos w *ℤ z) -ℤ (paid +ℤ (pos w *ℤ k))) (cell-shifted k m a b s h l)
    ∙ ap (λ z. z -ℤ (paid +ℤ (pos w *ℤ k))) (times_add w (cell_at m a b) k)
    ∙ difference-shifted (pos w *ℤ cell_at m a b) paid (pos w *ℤ k)

raised-shifted : (k : ℤ) (m : Grid) (w : ℕ) (q p : List ℕ) → IsShaped m → count_below m.rows (λ a. get_or p a 0) ≡ w
    → raised_regrets (shifted k m) w q (best_reply (shifted k m) p) (row_floor (shifted k m) p) ≡ raised_regrets m w q (best_reply m p) (row_floor m p)
raised-shifted k m w q p s e =
    let n = shifted k m in
    let b = best_reply m p in
    let low = row_floor m p +ℤ (pos w *ℤ k) in
    ap (λ c. raised_regrets n w q c (row_floor n p)) (reply-shifted k m w p s e)
    ∙ ap (raised_regrets n w q b) (floor-shifted k m w p s e)
    ∙ same_made m.rows (raised_regret n w q b low) (raised_regret m w q b (row_floor m p))
    (λ a h. ap (λ z. positive_part (pos (get_or q a 0) +ℤ z)) (regret-shifted k m w b a (row_floor m p) s h (reply-below m p s)))

regrets-shifted : (k : ℤ) (m : Grid) (w t : ℕ) → IsShaped m → regrets_before (shifted k m) w t ≡ regrets_before m w t
unfolding regrets_before
regrets-shifted k m w zero s = refl
regrets-shifted k m w (suc t) s =
    let n = shifted k m in
    ap (λ q. raised_regrets n w q (best_reply n (mixture_of w q)) (row_floor n (mixture_of w q))) (regrets-shifted k m w t s)
    ∙ raised-shifted k m w (regrets_before m w t) (mixture_before m w t) s (weight_before m w t s)

round-shifted : (k : ℤ) (m : Grid) (w t : ℕ) → IsShaped m → round_at (shifted k m) w t ≡ round_at m w t
unfolding round_at
round-shifted k m w t s =
    let n = shifted k m in
    let one : List ℕ → ℕ → Round = λ p b. record { mixture = p; reply = b } in
    ap (λ q. one (mixture_of w q) (best_reply n (mixture_of w q))) (regrets-shifted k m w t s)
    ∙ ap (one (mixture_before m w t)) (reply-shifted k m w (mixture_before m w t) s (weight_before m w t s))

rounds-shifted : (k : ℤ) (m : Grid) (w : ℕ) → IsShaped m → rounds (shifted k m) w ≡ rounds m w
unfolding rounds
rounds-shifted k m w s = same_map (round_at (shifted k m) w) (round_at m w) (λ t. round-shifted k m w t s) (range_with_len 0 w)

best-shifted : (k : ℤ) (m : Grid) (w : ℕ) → IsShaped m → best_mixture (shifted k m) (rounds (shifted k m) w) ≡ best_mixture m (rounds m w)
unfolding best_mixture
best-shifted k m w s =
    let n = shifted k m in
    let rs = rounds m w in
    let weight : (t : ℕ) → t < length rs → count_below m.rows (λ a. get_or (mixture_at rs t) a 0) ≡ w = λ t h.
    ap (λ p. count_below m.rows (λ a. get_or p a 0)) (mixture_at-rounds m w t (omega (arith, length-rounds m w))) ∙ weight_before m w t s in
    ap (best_mixture n) (rounds-shifted k m w s)
    ∙ ap (mixture_at rs) (greatest-shifted (length rs) (pos w *ℤ k) (λ t. row_floor m (mixture_at rs t)) (λ t. row_floor n (mixture_at rs t))
    (λ t h. floor-shifted k m w (mixture_at rs t) s (weight t h)))

counts-shifted : (k : ℤ) (m : Grid) (w : ℕ) → IsShaped m → reply_counts (shifted k m) (rounds (shifted k m) w) ≡ reply_counts m (rounds m w)
unfolding reply_counts
counts-shifted k m w s = ap (reply_counts m) (rounds-shifted k m w s)

-- ---- saddles
saddle-to : (k : ℤ) (m : Grid) (a b : ℕ) → IsShaped m → IsSaddle m a b → IsSaddle (shifted k m) a b
saddle-to k m a b s h =
    let here = cell-shifted k m a b s h.row_in h.col_in in
    record {
      row_in = h.row_in;
      col_in = h.col_in;
      least_in_row = λ c l. let at = cell-shifted k m a c s h.row_in l in let le = h.least_in_row c l in omega (arith, ints);
      greatest_in_col = λ c l. let at = cell-shifted k m c b s l h.col_in in let le = h.greatest_in_col c l in omega (arith, ints);
    }

saddle-from : (k : ℤ) (m : Grid) (a b : ℕ) → IsShaped m → IsSaddle (shifted k m) a b → IsSaddle m a b
saddle-from k m a b s h =
    let here = cell-shifted k m a b s h.row_in h.col_in in
    record {
      row_in = h.row_in;
      col_in = h.col_in;
      least_in_row = λ c l. let at = cell-shifted k m a c s h.row_in l in let le = h.least_in_row c l in omega (arith, ints);
      greatest_in_col = λ c l. let at = cell-shifted k m c b s l h.col_in in let le = h.greatest_in_col c l in omega (arith, ints);
    }

-- ---- the answers
stage-to : (k : ℤ) (m : Grid) (w : ℕ) (p v : List ℕ) → IsShaped m → IsStage m w p v → IsStage (shifted k m) w p v
stage-to k m w p v s (pure a b f ep ev) =
    pure a b (record { saddle = saddle-to k m a b s f.saddle; first = λ c d h. f.first c d (saddle-from k m c d s h) }) ep ev
stage-to k m w p v s (mixed n ep ev) =
    mixed (λ a b h. n a b (saddle-from k m a b s h)) (ep ∙ sym (best-shifted k m w s)) (ev ∙ sym (counts-shifted k m w s))

stage-from : (k : ℤ) (m : Grid) (w : ℕ) (p v : List ℕ) → IsShaped m → IsStage (shifted k m) w p v → IsStage m w p v
stage-from k m w p v s (pure a b f ep ev) =
    pure a b (record { saddle = saddle-from k m a b s f.saddle; first = λ c d h. f.first c d (saddle-to k m c d s h) }) ep ev
stage-from k m w p v s (mixed n ep ev) =
    mixed (λ a b h. n a b (saddle-to k m a b s h)) (ep ∙ best-shifted k m w s) (ev ∙ counts-shifted k m w s)

pub shift_law : ShiftLaw
shift_law k w m s = record {
  regrets = λ t. regrets-shifted k m w t s;
  in_rounds = rounds-shifted k m w s;
  best = best-shifted k m w s;
  counts = counts-shifted k m w s;
  saddles = λ a b. (saddle-from k m a b s, saddle-to k m a b s);
  stages = λ p v. (stage-from k m w p v s, stage-to k m w p v s);
}

-- ---- a matrix and its cells less the least of them
pub raised_cells : (cells : List ℤ) (others : List ℕ) (k : ℤ) → length cells ≡ length others
    → ((i : ℕ) → i < length others → get_or cells i (pos 0) ≡ pos (get_or others i 0) +ℤ k) → cells ≡ map (λ z. z +ℤ k) (map pos others)
raised_cells cells others k e h =
    let all : length cells ≡ length (map (λ z. z +ℤ k) (map pos others)) = e ∙ sym (length-map (map pos others) (λ z. z +ℤ k) ∙ length-map others pos) in
    ext_get_or (pos 0) cells (map (λ z. z +ℤ k) (map pos others)) all
    (λ i l. let in_others : i < length others = omega (arith, e) in
    let in_mapped : i < length (map pos others) = omega (arith, length-map others pos) in
    h i in_others ∙ sym (get_or-map (λ z. z +ℤ k) (map pos others) i (pos 0) (pos 0) in_mapped ∙ ap (λ z. z +ℤ k) (get_or-map pos others i 0 (pos 0) in_others)))

-- its answers are those of the cells less the least of them
pub raised-stage : (m : Grid) (rows cols : ℕ) (cells : List ℕ) (k : ℤ) (w : ℕ) (p v : List ℕ) → IsShaped m
    → m ≡ shifted k (raised_grid rows cols cells) → IsStage (raised_grid rows cols cells) w p v ↔ IsStage m w p v
raised-stage m rows cols cells k w p v s e =
    let g = raised_grid rows cols cells in
    let shaped : IsShaped (shifted k g) = subst IsShaped e s in
    let below : IsShaped g = record { some_row = shaped.some_row; some_col = shaped.some_col; all_cells = sym (length-map g.cells (λ z. z +ℤ k)) ∙ shaped.all_cells } in
    let alike = (shift_law k w g below).stages p v in
    (λ h. subst (λ (n : Grid). IsStage n w p v) (sym e) (alike.1 h), λ h. alike.0 (subst (λ (n : Grid). IsStage n w p v) e h))
