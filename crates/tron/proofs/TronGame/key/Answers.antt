use Rattle.std.proofs.Common.{arith, sym, ◌∙◌, ◌≡◌, ◌+◌, ◌*◌, ◌^◌}
use Rattle.tron.specs.laws.Game.{tron_sound, cells_in_bits, tron_key_is}
use Rattle.tron.proofs.TronGame.key.Goals as goal

pub put-requires-clause-value_high : goal.put-requires-clause-value_high
put-requires-clause-value_high c = (cells_in_bits c.args.self.now.setting c.args.self.now.valid c.args.s c.requires).0

pub put-requires-2-clause-value_high : goal.put-requires-2-clause-value_high
put-requires-2-clause-value_high c = omega (arith, cells_in_bits c.args.self.now.setting c.args.self.now.valid c.args.s c.requires)

pub put-requires-2-clause-room : goal.put-requires-2-clause-room
put-requires-2-clause-room c = omega (arith, c.put.ensures.value, cells_in_bits c.args.self.now.setting c.args.self.now.valid c.args.s c.requires)

pub put-requires-3-clause-value_high : goal.put-requires-3-clause-value_high
put-requires-3-clause-value_high c = omega (arith, cells_in_bits c.args.self.now.setting c.args.self.now.valid c.args.s c.requires)

pub put-requires-3-clause-room : goal.put-requires-3-clause-room
put-requires-3-clause-room c = omega (arith, c.put.ensures.value, c.put-2.ensures.value, cells_in_bits c.args.self.now.setting c.args.self.now.valid c.args.s c.requires)

pub returns : goal.returns
returns c =
    let e : c.put-3.result.0 ≡ (c.args.s.taken * 2 ^ 6 + c.args.s.one) * 2 ^ 6 + c.args.s.two = omega (arith, c.put.ensures.value, c.put-2.ensures.value, c.put-3.ensures.value) in
    e ∙ sym (tron_key_is c.args.self.now.setting c.args.self.now.valid c.args.s (tron_sound c.args.self.now.setting c.args.self.now.valid c.args.s c.requires))
