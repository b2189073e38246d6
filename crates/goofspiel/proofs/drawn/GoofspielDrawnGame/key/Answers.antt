use Rattle.std.proofs.Common.{arith, ◌≡◌, ◌+◌, ◌*◌, ◌^◌, sym, ◌∙◌}
use Rattle.goofspiel.specs.laws.Drawn.{drawn_sound, hands_small, place_small, drawn_key_is}
use Rattle.goofspiel.specs.Rules.{deal_of, goofspiel_key}
use Rattle.goofspiel.proofs.drawn.GoofspielDrawnGame.key.Goals as goal

pub hands_key-requires : goal.hands_key-requires
hands_key-requires c = hands_small c.args.self.now.setting c.args.self.now.valid c.args.s (drawn_sound c.args.self.now.setting c.args.self.now.valid c.args.s c.requires)

pub put-later-requires-clause-value_high : goal.put-later-requires-clause-value_high
put-later-requires-clause-value_high c = (drawn_sound c.args.self.now.setting c.args.self.now.valid c.args.s c.requires).undrawn_small

pub put-requires-clause-value_high : goal.put-requires-clause-value_high
put-requires-clause-value_high c =
    let place = place_small c.args.self.now.setting c.args.self.now.valid c.args.s (drawn_sound c.args.self.now.setting c.args.self.now.valid c.args.s c.requires) in omega (arith, place)

pub returns : goal.returns
returns c =
    let s = c.args.s in
    let whole : c.put.result.0 ≡ (goofspiel_key (deal_of s.hands) * 2 ^ 13 + s.undrawn) * 2 ^ 4 + s.place = omega (arith, c.hands_key.ensures.is, c.put-later.ensures.value, c.put.ensures.value) in
    whole ∙ sym (drawn_key_is c.args.self.now.setting c.args.self.now.valid s (drawn_sound c.args.self.now.setting c.args.self.now.valid s c.requires))
