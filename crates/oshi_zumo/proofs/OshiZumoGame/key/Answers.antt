use Rattle.std.proofs.Common.{◌≡◌, ℕ, ◌+◌, ◌*◌, ◌^◌, ◌+ℤ◌, pos, ap, ◌∙◌, arith}
use Rattle.std.specs.Int.RustNames.{unsigned_abs}
use Rattle.std.proofs.lemmas.Int.{ints}
use Rattle.oshi_zumo.specs.laws.Game.{key_fields}
use Rattle.oshi_zumo.proofs.OshiZumoGame.key.Goals as goal

pub overflow_add-s : goal.overflow_add-s
overflow_add-s c = omega (arith, ints, key_fields c.args.self.now.setting c.args.self.now.valid c.args.s c.requires)

pub overflow_cast-s : goal.overflow_cast-s
overflow_cast-s c = let here = key_fields c.args.self.now.setting c.args.self.now.valid c.args.s c.requires in (omega (arith, ints, here), omega (arith, ints, here))

pub put-place-requires-clause-value_high : goal.put-place-requires-clause-value_high
put-place-requires-clause-value_high c = omega (arith, ints, key_fields c.args.self.now.setting c.args.self.now.valid c.args.s c.requires)

pub put-requires-clause-value_high : goal.put-requires-clause-value_high
put-requires-clause-value_high c = rw c.coin_bits-bits.ensures.is (key_fields c.args.self.now.setting c.args.self.now.valid c.args.s c.requires).one

pub put-requires-2-clause-value_high : goal.put-requires-2-clause-value_high
put-requires-2-clause-value_high c = rw c.coin_bits-bits.ensures.is (key_fields c.args.self.now.setting c.args.self.now.valid c.args.s c.requires).two

pub returns : goal.returns
returns c =
    let s = c.args.s in
    let front : c.put-place.result.0 ≡ unsigned_abs (s.place +ℤ pos 16) = omega (arith, ints, key_fields c.args.self.now.setting c.args.self.now.valid s c.requires) in
    c.put-2.ensures.value ∙ ap (λ (n : ℕ). n * 2 ^ c.coin_bits-bits.result + s.two) (c.put.ensures.value ∙ ap (λ (n : ℕ). n * 2 ^ c.coin_bits-bits.result + s.one) front)
    ∙ ap (λ (bits : ℕ). (unsigned_abs (s.place +ℤ pos 16) * 2 ^ bits + s.one) * 2 ^ bits + s.two) c.coin_bits-bits.ensures.is
