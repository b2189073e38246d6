use Rattle.std.proofs.Common.{rules, sym}
use Rattle.oshi_zumo.specs.laws.Game.{bid_within}
use Rattle.oshi_zumo.proofs.Setting.bid.Goals as goal

pub overflow_cast-result : goal.overflow_cast-result
overflow_cast-result c = let w = bid_within c.args.self.least c.args.coins c.args.i c.if-coins-self.false c.requires in search rules

pub overflow_add-result : goal.overflow_add-result
overflow_add-result c = let w = bid_within c.args.self.least c.args.coins c.args.i c.if-coins-self.false c.requires in search rules

pub returns-else-coins-self-clause-is : goal.returns-else-coins-self-clause-is
returns-else-coins-self-clause-is c = sym (bid_within c.args.self.least c.args.coins c.args.i c.if-coins-self.false c.requires).1

pub returns-else-coins-self-clause-paid : goal.returns-else-coins-self-clause-paid
returns-else-coins-self-clause-paid c = (bid_within c.args.self.least c.args.coins c.args.i c.if-coins-self.false c.requires).0
