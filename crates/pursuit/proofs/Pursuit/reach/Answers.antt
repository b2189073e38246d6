use Rattle.pursuit.specs.laws.Game.{reach_listed, set_small}
use Rattle.pursuit.proofs.Pursuit.reach.Goals as goal

pub returns-clause-is : goal.returns-clause-is
returns-clause-is c =
    rw c.with_node.ensures (reach_listed c.args.self.now.setting.nodes c.args.self.now.setting.neighbours c.args.node)

pub returns-clause-small : goal.returns-clause-small
returns-clause-small c =
    rw c.with_node.ensures (set_small c.args.self.now.setting c.args.self.now.valid c.args.node c.requires)
