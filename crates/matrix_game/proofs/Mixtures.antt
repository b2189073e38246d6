-- Mixtures, read by index, and as a loop writes them.
use Rattle.std.proofs.Common.{◌≡◌, ℕ, zero, suc, ◌+◌, ◌-◌, ◌*◌, ◌/◌, ◌<◌, ◌≤◌, max, sym, refl, ap, ◌∙◌, arith, List, [], ◌∷◌, sum, length, get_or, replicate, cond, inl, inr}
use Rattle.std.proofs.Math.ListN.{set}
use Rattle.std.proofs.lemmas.Grind.{same_number_lists}
use Rattle.std.proofs.lemmas.List.{get_or-map, length-map, get_or-replicate, length-replicate, get_or-set_other, get_or-set_same, length-set}
use Rattle.std.proofs.lemmas.Bool.{cases_eq, eq-eqb, ne_eqb}
use Rattle.std.proofs.Math.Nat.{div-zero, zero-div}
use Rattle.std.proofs.lemmas.List.Sums.{get_or-le-sum_by}
use Rattle.sums.specs.Sums.{count_below}
use Rattle.sums.proofs.CountLemmas.{count_same, count_first}
use Rattle.matrix_game.proofs.Lists.{sum-count, sum-zeros, count_longer}
use Rattle.matrix_game.proofs.Potential.{AddsToFirst, share_of, shares-le, weight_by_shares}
use Rattle.matrix_game.specs.Rounds.{shares, add_to_first, mixture_of}

length-add_to_first : (x : ℕ) (xs : List ℕ) → length (add_to_first x xs) ≡ length xs
length-add_to_first x [] = refl
length-add_to_first x (y ∷ ys) = refl

get_or-add_to_first : (x : ℕ) (xs : List ℕ) → 0 < length xs → get_or (add_to_first x xs) 0 0 ≡ get_or xs 0 0 + x
get_or-add_to_first x [] h = absurd (omega arith)
get_or-add_to_first x (y ∷ ys) h = refl

get_or-add_to_first_other : (x : ℕ) (xs : List ℕ) (a : ℕ) → get_or (add_to_first x xs) (suc a) 0 ≡ get_or xs (suc a) 0
get_or-add_to_first_other x [] a = refl
get_or-add_to_first_other x (y ∷ ys) a = refl

-- the shares filled up, also where there is no regret
abbrev filled : ℕ → List ℕ → List ℕ
filled w q = add_to_first (w - sum (shares w q)) (shares w q)

shares_of_none : (w : ℕ) (q : List ℕ) → sum q ≡ 0 → shares w q ≡ replicate (length q) 0
shares_of_none w q e =
    let l : length (shares w q) ≡ length q = length-map q (λ r. w * r / sum q) in
    same_number_lists (shares w q) (replicate (length q) 0) (l ∙ sym (length-replicate (length q) 0))
    (λ k b. let c : k < length q = omega arith in
    get_or-map (λ r. w * r / sum q) q k 0 0 c ∙ ap (λ s. w * get_or q k 0 / s) e ∙ div-zero (w * get_or q k 0) ∙ sym (get_or-replicate (length q) k 0 0 c))

pub mixture_of-filled : (w : ℕ) (q : List ℕ) → mixture_of w q ≡ filled w q
mixture_of-filled w q =
    elim (cases_eq (sum q) 0) [
      | inl e ↦ ap (λ t. cond t (add_to_first w (replicate (length q) 0)) (filled w q)) (eq-eqb (sum q) 0 e)
          ∙ (let z = shares_of_none w q e in
          let s : sum (shares w q) ≡ 0 = ap sum z ∙ sum-zeros (length q) in
          let m : w ≡ w - sum (shares w q) = omega arith in
          ap (λ x. add_to_first x (replicate (length q) 0)) m ∙ ap (add_to_first (w - sum (shares w q))) (sym z))
      | inr n ↦ ap (λ t. cond t (add_to_first w (replicate (length q) 0)) (filled w q)) (ne_eqb (sum q) 0 n)
    ]

pub length-mixture_of : (w : ℕ) (q : List ℕ) → length (mixture_of w q) ≡ length q
length-mixture_of w q = ap length (mixture_of-filled w q) ∙ length-add_to_first (w - sum (shares w q)) (shares w q) ∙ length-map q (λ r. w * r / sum q)

get_or-shares : (n w : ℕ) (q : List ℕ) (a : ℕ) → length q ≡ n → a < n → get_or (shares w q) a 0 ≡ share_of n w (λ k. get_or q k 0) a
get_or-shares n w q a e h =
    let s : sum q ≡ count_below n (λ k. get_or q k 0) = sum-count q ∙ ap (λ i. count_below i (λ k. get_or q k 0)) e in
    let l : a < length q = omega arith in
    get_or-map (λ r. w * r / sum q) q a 0 0 l ∙ ap (λ t. w * get_or q a 0 / t) s

sum-shares : (n w : ℕ) (q : List ℕ) → length q ≡ n → sum (shares w q) ≡ count_below n (share_of n w (λ k. get_or q k 0))
sum-shares n w q e =
    let l : length (shares w q) ≡ n = length-map q (λ r. w * r / sum q) ∙ e in
    sum-count (shares w q) ∙ ap (λ i. count_below i (λ k. get_or (shares w q) k 0)) l
    ∙ count_same n (λ k. get_or (shares w q) k 0) (share_of n w (λ k. get_or q k 0)) (λ a h. get_or-shares n w q a e h)

-- a mixture has the shares in the regrets, and gives the first row what they lack
pub mixture_of-adds : (n w : ℕ) (q : List ℕ) → length q ≡ n → 0 < n
    → AddsToFirst n (w - count_below n (share_of n w (λ k. get_or q k 0))) (share_of n w (λ k. get_or q k 0)) (λ a. get_or (mixture_of w q) a 0)
mixture_of-adds n w q e h =
    let f = shares w q in
    let l : length f ≡ length q = length-map q (λ r. w * r / sum q) in
    let some : 0 < length f = omega arith in
    let missing = ap (λ s. w - s) (sum-shares n w q e) in
    let is = mixture_of-filled w q in
    record {
      first = omega (arith, ap (λ p. get_or p 0 0) is, get_or-add_to_first (w - sum f) f some, get_or-shares n w q 0 e h, missing);
      others = λ a k. ap (λ p. get_or p (suc a) 0) is ∙ get_or-add_to_first_other (w - sum f) f a ∙ get_or-shares n w q (suc a) e k;
    }

weight_of : (n w : ℕ) (q p : ℕ → ℕ) → 0 < n → AddsToFirst n (w - count_below n (share_of n w q)) (share_of n w q) p → count_below n p ≡ w
weight_of zero w q p h a = absurd (omega arith)
weight_of (suc n) w q p h a =
    omega (arith, weight_by_shares n (w - count_below (suc n) (share_of (suc n) w q)) (share_of (suc n) w q) p a, shares-le (suc n) w q)

-- it has the whole weight
pub weight-mixture_of : (n w : ℕ) (q : List ℕ) → length q ≡ n → 0 < n → count_below n (λ a. get_or (mixture_of w q) a 0) ≡ w
weight-mixture_of n w q e h = weight_of n w (λ k. get_or q k 0) (λ a. get_or (mixture_of w q) a 0) h (mixture_of-adds n w q e h)

-- ---- the mixture as a loop writes it, from the second row on
-- a row's share, by a sum of the regrets that is 1 where there is none
abbrev pub part_of : ℕ → ℕ → List ℕ → ℕ → ℕ
part_of w all q k = w * get_or q k 0 / all

none_of : (w d : ℕ) → w * 0 / d ≡ 0
none_of w d = let e : w * 0 ≡ 0 = omega arith in ap (λ x. x / d) e ∙ zero-div d

part_of-share : (n w all : ℕ) (q : List ℕ) (k : ℕ) → all ≡ max (sum q) 1 → length q ≡ n → k < n → part_of w all q k ≡ share_of n w (λ a. get_or q a 0) k
part_of-share n w all q k ea e h =
    let s : sum q ≡ count_below n (λ a. get_or q a 0) = sum-count q ∙ ap (λ i. count_below i (λ a. get_or q a 0)) e in
    elim (cases_eq (sum q) 0) [
      | inl z ↦ let none : get_or q k 0 ≡ 0 = omega (arith, get_or-le-sum_by (λ x. x) q k 0 (omega arith)) in
          ap (λ x. w * x / all) none ∙ none_of w all ∙ sym (ap (λ x. w * x / count_below n (λ a. get_or q a 0)) none ∙ none_of w (count_below n (λ a. get_or q a 0)))
      | inr z ↦ let is : all ≡ sum q = omega arith in ap (λ d. w * get_or q k 0 / d) (is ∙ s)
    ]

later_parts : (n w all r : ℕ) (q : List ℕ) → all ≡ max (sum q) 1 → length q ≡ n → r < n
    → share_of n w (λ a. get_or q a 0) 0 + count_below r (λ k. part_of w all q (suc k)) ≡ count_below (suc r) (share_of n w (λ a. get_or q a 0))
later_parts n w all r q ea e h =
    let f = share_of n w (λ a. get_or q a 0) in
    let same = count_same r (λ k. part_of w all q (suc k)) (λ k. f (suc k)) (λ k l. part_of-share n w all q (suc k) ea e (omega arith)) in
    omega (arith, same, count_first r f)

-- the shares of the later rows are at most the weight
later_parts-le : (n w all r : ℕ) (q : List ℕ) → all ≡ max (sum q) 1 → length q ≡ n → r < n → count_below r (λ k. part_of w all q (suc k)) ≤ w
later_parts-le n w all r q ea e h =
    let f = share_of n w (λ a. get_or q a 0) in
    omega (arith, later_parts n w all r q ea e h, count_longer (suc r) n f (omega arith), shares-le n w (λ a. get_or q a 0))

-- the rows after the first, and below a row, have their shares, and so much of the weight is left
pub record IsShared (w all row : ℕ) (q p : List ℕ) (left : ℕ) : Type 0 where
  pub written : (k : ℕ) → 1 ≤ k → k < row → get_or p k 0 ≡ part_of w all q k
  pub left_over : left + count_below (row - 1) (λ k. part_of w all q (suc k)) ≡ w

one_more : (w all r : ℕ) (q : List ℕ) → count_below (suc r) (λ k. part_of w all q (suc k)) ≡ count_below r (λ k. part_of w all q (suc k)) + part_of w all q (suc r)
one_more w all r q = refl

pub share_left : (w all row : ℕ) (q p : List ℕ) (left : ℕ) → all ≡ max (sum q) 1 → 1 ≤ row → row < length q → IsShared w all row q p left → part_of w all q row ≤ left
share_left w all row q p left ea l h shared =
    let r = row - 1 in
    let e : row ≡ suc r = omega arith in
    let below = later_parts-le (length q) w all row q ea refl h in
    let split : count_below row (λ k. part_of w all q (suc k)) ≡ count_below r (λ k. part_of w all q (suc k)) + part_of w all q row =
    ap (λ n. count_below n (λ k. part_of w all q (suc k))) e ∙ one_more w all r q ∙ ap (λ n. count_below r (λ k. part_of w all q (suc k)) + part_of w all q n) (sym e) in
    omega (arith, below, split, shared.left_over)

pub shared_more : (w all row : ℕ) (q p : List ℕ) (left share : ℕ) → all ≡ max (sum q) 1 → 1 ≤ row → row < length q → length p ≡ length q → share ≡ part_of w all q row → IsShared w all row q p left
    → IsShared w all (row + 1) q (set p row share) (left - share)
shared_more w all row q p left share ea l h same es shared =
    let r = row - 1 in
    let e : row ≡ suc r = omega arith in
    let e1 : row + 1 - 1 ≡ suc r = omega arith in
    let le = share_left w all row q p left ea l h shared in
    record {
      written = λ k a b. elim (cases_eq k row) [
        | inl s ↦ let in_p : row < length p = omega arith in ap (λ i. get_or (set p row share) i 0) s ∙ get_or-set_same p row share 0 in_p ∙ es ∙ ap (part_of w all q) (sym s)
        | inr o ↦ get_or-set_other p row k share 0 o ∙ shared.written k a (omega arith)
      ];
      left_over = let part = ap (part_of w all q) e in rw e1 (omega (arith, shared.left_over, es, le, part));
    }

-- with what is left given to the first row it is the mixture
pub shared_all : (w all : ℕ) (q p : List ℕ) (left : ℕ) → all ≡ max (sum q) 1 → 0 < length q → length p ≡ length q → IsShared w all (length q) q p left → set p 0 left ≡ mixture_of w q
shared_all w all q p left ea h same shared =
    let n = length q in
    let f = share_of n w (λ a. get_or q a 0) in
    let adds = mixture_of-adds n w q refl h in
    let r = n - 1 in
    let e : n ≡ suc r = omega arith in
    let parts = later_parts n w all r q ea refl (omega arith) in
    let whole = ap (λ i. count_below i f) e in
    same_number_lists (set p 0 left) (mixture_of w q) (length-set p 0 left ∙ same ∙ sym (length-mixture_of w q))
    (λ k b. elim (cases_eq k 0) [
      | inl z ↦ let in_p : 0 < length p = omega arith in
          ap (λ i. get_or (set p 0 left) i 0) z ∙ get_or-set_same p 0 left 0 in_p
          ∙ omega (arith, shared.left_over, parts, whole, shares-le n w (λ a. get_or q a 0), adds.first) ∙ ap (λ i. get_or (mixture_of w q) i 0) (sym z)
      | inr z ↦ let in_q : k < n = omega (arith, length-set p 0 left) in
          let s : k ≡ suc (k - 1) = omega arith in
          get_or-set_other p 0 k left 0 z ∙ shared.written k (omega arith) in_q ∙ part_of-share n w all q k ea refl in_q ∙ ap f s
          ∙ sym (adds.others (k - 1) (omega arith)) ∙ ap (λ i. get_or (mixture_of w q) i 0) (sym s)
    ])
