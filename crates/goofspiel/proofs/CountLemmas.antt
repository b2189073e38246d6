-- How many sets there are, as the tables say.
use Rattle.std.proofs.Common.{◌≡◌, ℕ, zero, suc, ◌+◌, ◌*◌, ◌/◌, ◌%◌, ◌<◌, ◌≤◌, ◌^◌, eqb, leb, true, get_or, refl, arith}
use Rattle.std.proofs.Math.Nat.{pow-succ', pow-le-pow_right}
use Rattle.std.proofs.lemmas.Bool.{agree_below_at, eqb-true, leb-true}
use Rattle.sums.specs.Sums.{count_below}
use Rattle.goofspiel.specs.Counts.{choose}
use Rattle.goofspiel.specs.declared.counts.TheConstants.{CHOICES, PAIRS_BELOW}
use Rattle.goofspiel.specs.Places.{deals}

choose_power : (n k : ℕ) → choose n k ≤ 2 ^ n
choose_power zero zero = omega arith
choose_power zero (suc k) = omega arith
choose_power (suc n) zero = omega (arith, choose_power n zero, pow-succ' 2 n)
choose_power (suc n) (suc k) = omega (arith, choose_power n k, choose_power n (suc k), pow-succ' 2 n)

pub choose_few : (n k : ℕ) → n ≤ 13 → choose n k ≤ 8192
choose_few n k few = omega (arith, choose_power n k, pow-le-pow_right {n = 2} (omega arith) {i = n} {j = 13} few)

-- ---- the tables
choice_at : (i : ℕ) → i < 196 → get_or CHOICES i 0 ≡ choose (i / 14) (i % 14)
choice_at i l = eqb-true _ _ (agree_below_at (λ (k : ℕ). eqb (get_or CHOICES k 0) (choose (k / 14) (k % 14))) (λ _. true) 196 i refl l)

pub choice_is : (n k : ℕ) → n ≤ 13 → k ≤ 13 → get_or CHOICES (14 * n + k) 0 ≡ choose n k
choice_is n k few small =
    let row : (14 * n + k) / 14 ≡ n = omega arith in
    let place : (14 * n + k) % 14 ≡ k = omega arith in
    rw (row, place) at (choice_at (14 * n + k) (omega arith))

pairs_at : (i : ℕ) → i < 210 → get_or PAIRS_BELOW i 0 ≡ count_below (i % 15) (λ taken. deals (choose (i / 15) taken) 0)
pairs_at i l = eqb-true _ _ (agree_below_at (λ (k : ℕ). eqb (get_or PAIRS_BELOW k 0) (count_below (k % 15) (λ taken. deals (choose (k / 15) taken) 0))) (λ _. true) 210 i refl l)

pub pairs_is : (n k : ℕ) → n ≤ 13 → k ≤ 14 → get_or PAIRS_BELOW (15 * n + k) 0 ≡ count_below k (λ taken. deals (choose n taken) 0)
pairs_is n k few small =
    let row : (15 * n + k) / 15 ≡ n = omega arith in
    let place : (15 * n + k) % 15 ≡ k = omega arith in
    rw (row, place) at (pairs_at (15 * n + k) (omega arith))

pub pairs_few : (i : ℕ) → i < 210 → get_or PAIRS_BELOW i 0 ≤ 134217728
pairs_few i l = leb-true _ _ (agree_below_at (λ (k : ℕ). leb (get_or PAIRS_BELOW k 0) 134217728) (λ _. true) 210 i refl l)
