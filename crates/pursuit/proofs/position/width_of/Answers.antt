use Rattle.std.proofs.Common.{arith, get_or}
use Rattle.std.proofs.lemmas.Nat.{ones-le}
use Rattle.pursuit.specs.laws.Game.{degree_is, greatest_more}
use Rattle.pursuit.specs.Rules.{degree, graph_from}
use Rattle.pursuit.proofs.position.width_of.Goals as goal

pub loop-node-preserved : goal.loop-node-preserved
loop-node-preserved c =
    let node = c.loop-node.node in
    let within = c.requires.within node in
    let is = degree_is c.args.nodes c.args.sets.now node within in
    let more = greatest_more node (degree (graph_from c.args.nodes c.args.sets.now)) in (
      omega (arith, more, is, c.loop-node.invariant.0, c.max-most.ensures),
      omega
          (arith, ones-le c.args.nodes (get_or c.args.sets.now node 0) within, c.loop-node.invariant.1, c.max-most.ensures, c.requires.nodes),
    )
