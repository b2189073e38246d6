use Rattle.std.proofs.Common.{arith, ℕ, ◌≡◌, subst}
use Rattle.state_key.proofs.SetLemmas.{IsDropped, next_number}
use Rattle.pursuit.specs.Rules.{graph_of, reach}
use Rattle.pursuit.proofs.Pursuit.reach_node.Goals as goal

pub overflow_sub-rest : goal.overflow_sub-rest
overflow_sub-rest c =
    (next_number 64 c.args.self.now.setting.nodes 0
    (reach (graph_of c.args.self.now.setting) c.args.node) c.loop.counter c.loop.rest c.args.self.now.valid.nodes_high (omega (arith, c.requires.place)) c.loop.invariant).0

pub loop-preserved : goal.loop-preserved
loop-preserved c =
    (next_number 64 c.args.self.now.setting.nodes 0
    (reach (graph_of c.args.self.now.setting) c.args.node) c.loop.counter c.loop.rest c.args.self.now.valid.nodes_high (omega (arith, c.requires.place)) c.loop.invariant).2

pub returns : goal.returns
returns c =
    let xs = reach (graph_of c.args.self.now.setting) c.args.node in
    let there : c.loop.counter ≡ c.args.place = omega arith in
    let dropped = subst (λ (count : ℕ). IsDropped c.args.self.now.setting.nodes 0 xs count c.loop.rest) there c.loop.invariant in
    omega (arith, (next_number 64 c.args.self.now.setting.nodes 0 xs c.args.place c.loop.rest c.args.self.now.valid.nodes_high c.requires.place dropped).1)
