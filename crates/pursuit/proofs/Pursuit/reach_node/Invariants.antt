use Rattle.pursuit.specs.Rules.{graph_of, reach}
use Rattle.state_key.proofs.SetLemmas.{IsDropped}
use Rattle.pursuit.proofs.Pursuit.reach_node.Given as goal

abbrev pub invariant-loop : goal.invariant-loop
invariant-loop l = IsDropped l.self.setting.nodes 0 (reach (graph_of l.self.setting) l.node) l.counter l.rest
