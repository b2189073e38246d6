use Rattle.pursuit.specs.laws.Game.{chase_fields}
use Rattle.pursuit.proofs.PursuitGame.key.Goals as goal

pub put-rounds-requires-clause-value_high : goal.put-rounds-requires-clause-value_high
put-rounds-requires-clause-value_high c = rw c.key_bits-bits.ensures.is (chase_fields c.args.self.now.setting c.args.self.now.valid c.args.s c.requires).rounds

pub put-requires-2-clause-value_high : goal.put-requires-2-clause-value_high
put-requires-2-clause-value_high c = rw c.key_bits-bits.ensures.is (chase_fields c.args.self.now.setting c.args.self.now.valid c.args.s c.requires).one

pub put-requires-3-clause-value_high : goal.put-requires-3-clause-value_high
put-requires-3-clause-value_high c = rw c.key_bits-bits.ensures.is (chase_fields c.args.self.now.setting c.args.self.now.valid c.args.s c.requires).two
