use Rattle.pursuit.specs.laws.Game.{node_below, pursuit_sound}
use Rattle.pursuit.proofs.PursuitGame.label.Goals as goal

pub reach_node-requires-clause-node : goal.reach_node-requires-clause-node
reach_node-requires-clause-node c =
    rw c.node.ensures (node_below c.args.self.now.setting c.args.self.now.valid c.args.side c.args.s (pursuit_sound c.args.self.now.setting c.args.self.now.valid c.args.s c.requires.reachable))
