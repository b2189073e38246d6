use Rattle.std.proofs.Common.{◌≡◌, ◌<◌, ◌==◌, ℕ, List, [], ◌∷◌, length, get_or, true, eqb-true, arith, sym, ◌∙◌}
use Rattle.certificate.proofs.NumberLemmas.{signed-minus, signed-plain}
use Rattle.certificate.proofs.numbers.signed.Goals as goal
use Rattle.certificate.proofs.numbers.signed.Goals.{then-is_empty-via-then-is_empty, then-is_empty-via-else-is_empty+then-text-ne45}

no_minus : (s : List ℕ) → (length s == 0) ≡ true → get_or s 0 0 ≡ 45 → ⊥
no_minus [] none minus = omega arith
no_minus (d ∷ ds) none minus = omega (arith, eqb-true (length (d ∷ ds)) 0 none)

pub returns-then-is_empty : goal.returns-then-is_empty
returns-then-is_empty c = c.from_zero.ensures ∙ signed-plain c.args.text.now (elim c.then-is_empty.branch [
  | then-is_empty-via-then-is_empty w ↦ no_minus c.args.text.now (sym c.is_empty.ensures ∙ w.if-is_empty.true)
  | then-is_empty-via-else-is_empty+then-text-ne45 w ↦ w.if-text-ne45.true
])

pub returns : goal.returns
returns c =
    let some : 0 < length c.args.text.now = grind arith in
    c.below_zero.ensures ∙ signed-minus c.args.text.now some c.if-text-ne45.false
