-- A packed set of cells and its list say the same.
use Rattle.std.proofs.Common.{◌≡◌, ℕ, zero, suc, ◌+◌, ◌*◌, ◌/◌, ◌%◌, ◌^◌, ◌<◌, Bool, true, false, ◌||◌, cond, eqb, List, [], ◌∷◌, ◌++◌, refl, sym, ap, ◌∙◌, arith}
use Rattle.std.proofs.Math.Nat.{pow-succ', mod-eq_of_lt}
use Rattle.std.proofs.lemmas.List.Folds.{list_any-append}
use Rattle.std.proofs.lemmas.Nat.{mod-pow-add}
use Rattle.std.proofs.lemmas.Nat.Bits.{bit_at_lowest, bit_at-suc}
use Rattle.std.specs.Int.{bit_at}
use Rattle.std.specs.Int.Count.{ones, ones_step}
use Rattle.state_key.proofs.SetLemmas.{bit_is, in_with, or_last}
use Rattle.sums.specs.Sums.{count_below}
use Rattle.sums.proofs.CountLemmas.{count_add, count_constant, count_first, count_same}
use Rattle.tron.specs.Cells.{is_taken, is_listed, with_cell, IsSetOf}

-- ---- one cell more
pub listed_push : (cells : List ℕ) (cell other : ℕ) → is_listed (cells ++ cell ∷ []) other ≡ (is_listed cells other || eqb cell other)
listed_push cells cell other = list_any-append (λ third. eqb third other) cells (cell ∷ []) ∙ ap (λ (b : Bool). is_listed cells other || b) (or_last (eqb cell other) false refl)

pub set_more : (cells : List ℕ) (taken cell : ℕ) → IsSetOf cells taken → IsSetOf (cells ++ cell ∷ []) (with_cell taken cell)
set_more cells taken cell s = record { same = λ other. in_with taken cell other ∙ ap (λ (b : Bool). b || eqb cell other) (s.same other) ∙ sym (listed_push cells cell other) }

-- ---- how many cells are taken
ones_below : (n taken : ℕ) → taken < 2 ^ n → count_below n (bit_at taken) ≡ ones taken
unfolding ones
ones_below zero taken small = let none : taken ≡ 0 = omega arith in rw none refl
ones_below (suc n) taken small =
    let rest = count_same n (λ i. bit_at taken (suc i)) (bit_at (taken / 2)) (λ i _. bit_at-suc taken i) in
    omega (arith, count_first n (bit_at taken), bit_at_lowest taken, rest, ones_below n (taken / 2) (omega (arith, pow-succ' 2 n)), ones_step taken)

one_of : (b : Bool) → cond b 0 1 + cond b 1 0 ≡ 1
one_of true = refl
one_of false = refl

free_bit : (taken cell : ℕ) → cond (is_taken taken cell) 0 1 + bit_at taken cell ≡ 1
free_bit taken cell = ap (λ (n : ℕ). cond (is_taken taken cell) 0 1 + n) (bit_is taken cell) ∙ one_of (is_taken taken cell)

-- each cell is free or taken
pub free_and_taken : (n taken : ℕ) → taken < 2 ^ n → count_below n (λ cell. cond (is_taken taken cell) 0 1) + ones taken ≡ n
free_and_taken n taken small =
    let both = count_add n (λ cell. cond (is_taken taken cell) 0 1) (bit_at taken) in
    omega (arith, ones_below n taken small, both, count_same n (λ cell. cond (is_taken taken cell) 0 1 + bit_at taken cell) (λ _. 1) (λ cell _. free_bit taken cell), count_constant n 1)

-- ---- a set is the sum of its bits
times : (b : Bool) (n : ℕ) → cond b n 0 ≡ cond b 1 0 * n
times true n = omega arith
times false n = omega arith

bit_value : (taken cell : ℕ) → cond (is_taken taken cell) (2 ^ cell) 0 ≡ bit_at taken cell * 2 ^ cell
bit_value taken cell = times (is_taken taken cell) (2 ^ cell) ∙ ap (λ (n : ℕ). n * 2 ^ cell) (sym (bit_is taken cell))

low_sum : (n taken : ℕ) → count_below n (λ cell. bit_at taken cell * 2 ^ cell) ≡ taken % 2 ^ n
low_sum zero taken = omega arith
low_sum (suc n) taken =
    let s : suc n ≡ 1 + n = omega arith in
    let e : taken % 2 ^ suc n ≡ (taken / 2 ^ n % 2 ^ 1) * 2 ^ n + taken % 2 ^ n = ap (λ (k : ℕ). taken % 2 ^ k) s ∙ mod-pow-add taken 1 n in
    omega (arith, low_sum n taken, e)

pub bits_sum : (n taken : ℕ) → taken < 2 ^ n → count_below n (λ cell. cond (is_taken taken cell) (2 ^ cell) 0) ≡ taken
bits_sum n taken small =
    count_same n (λ cell. cond (is_taken taken cell) (2 ^ cell) 0) (λ cell. bit_at taken cell * 2 ^ cell) (λ cell _. bit_value taken cell)
    ∙ low_sum n taken ∙ mod-eq_of_lt small
