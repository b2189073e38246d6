use Rattle.pursuit.specs.laws.Game.{pursuit_sound}
use Rattle.pursuit.proofs.PursuitGame.next.Goals as goal

pub reach_node-one-requires-clause-node : goal.reach_node-one-requires-clause-node
reach_node-one-requires-clause-node c = (pursuit_sound c.args.self.now.setting c.args.self.now.valid c.args.s c.requires.reachable).one_below

pub reach_node-two-requires-clause-node : goal.reach_node-two-requires-clause-node
reach_node-two-requires-clause-node c = (pursuit_sound c.args.self.now.setting c.args.self.now.valid c.args.s c.requires.reachable).two_below
