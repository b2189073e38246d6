-- Lists read by index, their sums, and a list that a loop makes from a function of the index.
use Rattle.std.proofs.Common.{◌≡◌, ℕ, zero, suc, ◌+◌, ◌<◌, ◌≤◌, ◌≢◌, sym, refl, ap, ◌∙◌, arith, List, ◌∷◌, sum, sum_by, length, get_or, map, replicate, inl, inr}
use Rattle.std.proofs.Math.ListN.{set}
use Rattle.std.proofs.lemmas.List.{get_or-map, length-map, get_or-replicate, length-replicate, get_or-set_other, get_or-set_same}
use Rattle.std.proofs.lemmas.List.Recursion.{is_sum_by}
use Rattle.std.proofs.lemmas.List.Sums.{get_or-le-sum_by}
use Rattle.std.proofs.lemmas.List.FromFn.{fill_by_all, length-map-range_with_len, get_or-map-range_with_len}
use Rattle.std.proofs.lemmas.Bool.{cases_eq, cases_lt}
use Rattle.std.specs.List.{range_with_len}
use Rattle.sums.specs.Sums.{count_below}
use Rattle.sums.proofs.CountLemmas.{count_same, count_constant, count_first, count_more}

pub sum_by-count : {X : Type 0} (f : X → ℕ) (xs : List X) (d : X) → sum_by f xs ≡ count_below (length xs) (λ i. f (get_or xs i d))
sum_by-count f xs d =
    sym (is_sum_by (λ ys. count_below (length ys) (λ i. f (get_or ys i d))) f refl (λ y ys. count_first (length ys) (λ i. f (get_or (y ∷ ys) i d))) xs)

pub sum-count : (xs : List ℕ) → sum xs ≡ count_below (length xs) (λ i. get_or xs i 0)
sum-count xs = sum_by-count (λ x. x) xs 0

pub sum-zeros : (n : ℕ) → sum (replicate n 0) ≡ 0
sum-zeros n =
    sum-count (replicate n 0) ∙ ap (λ k. count_below k (λ a. get_or (replicate n 0) a 0)) (length-replicate n 0)
    ∙ count_same n (λ a. get_or (replicate n 0) a 0) (λ a. 0) (λ a h. get_or-replicate n a 0 0 h) ∙ (let z = count_constant n 0 in omega (arith, z))

pub count_longer : (n m : ℕ) (f : ℕ → ℕ) → n ≤ m → count_below n f ≤ count_below m f
count_longer n zero f h = let e : n ≡ 0 = omega arith in rw e (omega arith)
count_longer n (suc m) f h =
    elim (cases_lt m n) [
      | inl l ↦ let e : n ≡ suc m = omega arith in rw e (omega arith)
      | inr l ↦ omega (arith, count_longer n m f l)
    ]

-- the number of an element of a list
pub number_at : {X : Type 0} (f : X → ℕ) (xs : List X) (k : ℕ) (x : X) → k < length xs → x ≡ get_or xs k x → get_or (map f xs) k 0 ≡ f x
number_at f xs k x h e = get_or-map f xs k x 0 h ∙ ap f (sym e)

pub number-le : {X : Type 0} (f : X → ℕ) (xs : List X) (k : ℕ) (x : X) → k < length xs → x ≡ get_or xs k x → f x ≤ sum (map f xs)
number-le f xs k x h e =
    let listed : k < length (map f xs) = omega (arith, length-map xs f) in
    omega (arith, number_at f xs k x h e, get_or-le-sum_by (λ n. n) (map f xs) k 0 listed)

-- ---- a list as a loop makes it
pub sum-made : (f : ℕ → ℕ) (n : ℕ) → sum (map f (range_with_len 0 n)) ≡ count_below n f
sum-made f n =
    sum-count (map f (range_with_len 0 n)) ∙ ap (λ k. count_below k (λ a. get_or (map f (range_with_len 0 n)) a 0)) (length-map-range_with_len f 0 n)
    ∙ count_same n (λ a. get_or (map f (range_with_len 0 n)) a 0) f (λ a h. get_or-map-range_with_len f 0 n a a 0 h (omega arith))

-- the rows below a row have their new numbers, and their sum is known
pub record IsMade (f : ℕ → ℕ) (old new : List ℕ) (row all : ℕ) : Type 0 where
  pub made : (k : ℕ) → k < row → get_or new k 0 ≡ f k
  pub others : (k : ℕ) → row ≤ k → get_or new k 0 ≡ get_or old k 0
  pub summed : all ≡ count_below row f

pub none_made : (f : ℕ → ℕ) (old : List ℕ) (all : ℕ) → all ≡ 0 → IsMade f old old 0 all
none_made f old all e = record {
  made = λ k h. absurd (omega arith);
  others = λ k h. refl;
  summed = e;
}

pub made_more : (f : ℕ → ℕ) (old new after : List ℕ) (row all next x : ℕ) → row < length new → after ≡ set new row x → x ≡ f row → next ≡ all + x
    → IsMade f old new row all → IsMade f old after (row + 1) next
made_more f old new after row all next x h ea ex en made =
    rw ea (record {
      made = λ k l. elim (cases_eq k row) [
        | inl s ↦ ap (λ i. get_or (set new row x) i 0) s ∙ get_or-set_same new row x 0 h ∙ ex ∙ ap f (sym s)
        | inr o ↦ get_or-set_other new row k x 0 o ∙ made.made k (omega arith)
      ];
      others = λ k l. let o : k ≢ row = omega arith in get_or-set_other new row k x 0 o ∙ made.others k (omega arith);
      summed = omega (arith, count_more row f, made.summed);
    })

-- what is summed so far, with one more, is at most the sum of all
pub made-le : (f : ℕ → ℕ) (old new : List ℕ) (row all n : ℕ) → row < n → IsMade f old new row all → all + f row ≤ sum (map f (range_with_len 0 n))
made-le f old new row all n h made = omega (arith, made.summed, count_longer (row + 1) n f (omega arith), count_more row f, sum-made f n)

pub all_made : (f : ℕ → ℕ) (old new : List ℕ) (row all n : ℕ) → length new ≡ n → row ≡ n → IsMade f old new row all → (new ≡ map f (range_with_len 0 n)) × (all ≡ sum new)
all_made f old new row all n e end made =
    let is = fill_by_all f new n 0 e (λ k l. made.made k (omega arith)) in (is, made.summed ∙ ap (λ k. count_below k f) end ∙ sym (ap sum is ∙ sum-made f n))
