use Rattle.std.proofs.Common.{arith, ℕ, ◌≡◌, ◌+◌, ◌-◌, ◌*◌, ◌%◌, ◌^◌, ◌<◌, ap, sym, ◌∙◌}
use Rattle.std.proofs.lemmas.Nat.{one_shl}
use Rattle.goofspiel.specs.laws.Cards.{taken_out}
use Rattle.goofspiel.proofs.sets.take_out.Goals as goal

pub overflow_sub-result : goal.overflow_sub-result
overflow_sub-result c = let out = taken_out c.args.low c.args.set c.args.place c.requires.small c.requires.place in omega (arith, out.first, c.number_at-number.ensures)

pub overflow_shl-result : goal.overflow_shl-result
overflow_shl-result c = let out = taken_out c.args.low c.args.set c.args.place c.requires.small c.requires.place in omega (arith, out.last, c.number_at-number.ensures)

-- the bit of the number
bit_is : (low number listed : ℕ) → number ≡ listed → listed < low + 13 → 1 * 2 ^ (number - low) % 65536 ≡ 2 ^ (listed - low)
bit_is low number listed is high = one_shl (number - low) 16 (omega arith) ∙ ap (λ (n : ℕ). 2 ^ (n - low)) is

pub overflow_sub-result-2 : goal.overflow_sub-result-2
overflow_sub-result-2 c =
    let out = taken_out c.args.low c.args.set c.args.place c.requires.small c.requires.place in
    rw (bit_is c.args.low c.number_at-number.result _ c.number_at-number.ensures out.last) out.held

pub returns-clause-rest : goal.returns-clause-rest
returns-clause-rest c =
    let out = taken_out c.args.low c.args.set c.args.place c.requires.small c.requires.place in
    ap (λ (bit : ℕ). c.args.set - bit) (bit_is c.args.low c.number_at-number.result _ c.number_at-number.ensures out.last) ∙ sym out.rest
