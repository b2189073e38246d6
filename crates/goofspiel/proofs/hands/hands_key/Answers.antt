use Rattle.std.proofs.Common.{arith, ◌≡◌, ◌+◌, ◌*◌, ◌^◌, pos, ◌+ℤ◌, sym, ◌∙◌}
use Rattle.std.proofs.lemmas.Int.{ints}
use Rattle.std.specs.Int.RustNames.{unsigned_abs}
use Rattle.goofspiel.specs.laws.Deals.{hands_key_is}
use Rattle.goofspiel.proofs.hands.hands_key.Goals as goal

pub put-requires-clause-value_high : goal.put-requires-clause-value_high
put-requires-clause-value_high c = c.requires.one

pub put-hands-requires-clause-value_high : goal.put-hands-requires-clause-value_high
put-hands-requires-clause-value_high c = c.requires.two

pub overflow_add-s : goal.overflow_add-s
overflow_add-s c = omega (arith, ints, c.requires.score)

pub overflow_cast-s-3 : goal.overflow_cast-s-3
overflow_cast-s-3 c = (omega (arith, ints, c.requires.score), omega (arith, ints, c.requires.score))

pub put-requires-2-clause-value_high : goal.put-requires-2-clause-value_high
put-requires-2-clause-value_high c = omega (arith, ints, c.requires.score)

pub returns-clause-is : goal.returns-clause-is
returns-clause-is c =
    let e : c.put-2.result.0 ≡ (c.args.s.one * 2 ^ 13 + c.args.s.two) * 2 ^ 13 + unsigned_abs (c.args.s.score +ℤ pos 2300) =
    omega (arith, ints, c.put.ensures.value, c.put-hands.ensures.value, c.put-2.ensures.value, c.requires.score) in
    e ∙ sym (hands_key_is c.args.s c.requires)
