use Rattle.std.proofs.Common.{arith}
use Rattle.oshi_zumo.specs.laws.Game.{few_places, oshi_zumo_numbered, oshi_zumo_sound}
use Rattle.oshi_zumo.proofs.OshiZumoGame.place.Goals as goal

pub from_end-requires-clause-near : goal.from_end-requires-clause-near
from_end-requires-clause-near c = (oshi_zumo_sound c.args.self.now.setting c.args.self.now.valid c.args.s c.requires).near

pub overflow_mul-result : goal.overflow_mul-result
overflow_mul-result c =
    let below = (oshi_zumo_numbered c.args.self.now.setting c.args.self.now.valid).below c.args.s c.requires in
    rw (c.from_end.ensures) (omega (arith, below, few_places c.args.self.now.setting c.args.self.now.valid))

pub overflow_add-result-2 : goal.overflow_add-result-2
overflow_add-result-2 c =
    let below = (oshi_zumo_numbered c.args.self.now.setting c.args.self.now.valid).below c.args.s c.requires in
    rw (c.from_end.ensures) (omega (arith, below, few_places c.args.self.now.setting c.args.self.now.valid))
