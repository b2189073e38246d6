-- A score, less or more the prizes that are still to be won, in a machine's numbers.
use Rattle.std.proofs.Common.{◌≡◌, ◌≤◌, ℕ, ℤ, pos, ◌+ℤ◌, ◌-ℤ◌, w32, to_z, of_z, arith, ap, sym, ◌∙◌}
use Rattle.std.proofs.lemmas.Int.{ints}
use Rattle.std.specs.Int.RustNames.{unsigned_abs}
use Rattle.goofspiel.specs.declared.Pay.{Pay}
use Rattle.goofspiel.specs.declared.Pay.TheVariants.{Prizes}
use Rattle.goofspiel.specs.declared.Setting.{Setting}
use Rattle.goofspiel.specs.Rules.{low_of, high_of, bound_of, least_sum, most_sum}
use Rattle.goofspiel.specs.Position.{prizes_of}
use Rattle.std.specs.List.{sum}

difference : (score : ℤ) (left : ℕ) → unsigned_abs score ≤ 2300 → left ≤ 3570 → to_z w32 (of_z w32 (to_z w32 (of_z w32 score) -ℤ to_z w32 left)) ≡ score -ℤ pos left
difference score left small few = omega (arith, ints)

total : (score : ℤ) (left : ℕ) → unsigned_abs score ≤ 2300 → left ≤ 3570 → to_z w32 (of_z w32 (to_z w32 (of_z w32 score) +ℤ to_z w32 left)) ≡ score +ℤ pos left
total score left small few = omega (arith, ints)

pub least_is : (g : Setting) (score : ℤ) (left rest : ℕ) → unsigned_abs score ≤ 2300 → left ≤ 3570 → left ≡ rest → g.pay ≡ Prizes
    → to_z w32 (of_z w32 (to_z w32 (of_z w32 score) -ℤ to_z w32 left)) ≡ least_sum g score rest
least_is g score left rest small few is prizes =
    difference score left small few ∙ ap (λ (n : ℕ). score -ℤ pos n) is
    ∙ ap (λ (pay : Pay). bound_of pay (low_of g.pay g.score (sum (prizes_of g))) (score -ℤ pos rest)) (sym prizes)

pub most_is : (g : Setting) (score : ℤ) (left rest : ℕ) → unsigned_abs score ≤ 2300 → left ≤ 3570 → left ≡ rest → g.pay ≡ Prizes
    → to_z w32 (of_z w32 (to_z w32 (of_z w32 score) +ℤ to_z w32 left)) ≡ most_sum g score rest
most_is g score left rest small few is prizes =
    total score left small few ∙ ap (λ (n : ℕ). score +ℤ pos n) is
    ∙ ap (λ (pay : Pay). bound_of pay (high_of g.pay g.score (sum (prizes_of g))) (score +ℤ pos rest)) (sym prizes)
